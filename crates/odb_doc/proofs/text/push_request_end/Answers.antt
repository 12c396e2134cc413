use Rattle.std.proofs.Common.{◌≡◌, ◌∙◌, ◌++◌, ℕ, List, append_assoc, ap, codes, cond, is_ok, string_bytes, rules}
use Rattle.odb_doc.specs.Texts.{request_end}
use Rattle.odb_doc.proofs.text.push_request_end.Goals as goal

-- a text to which six pieces and a last one are appended in turn
appended : (t0 t1 t2 t3 t4 t5 t6 a b c d e f last : List ℕ) → t1 ≡ t0 ++ a → t2 ≡ t1 ++ b → t3 ≡ t2 ++ c → t4 ≡ t3 ++ d → t5 ≡ t4 ++ e → t6 ≡ t5 ++ f
    → t6 ++ last ≡ t0 ++ (a ++ (b ++ (c ++ (d ++ (e ++ (f ++ last))))))
appended t0 t1 t2 t3 t4 t5 t6 a b c d e f last e1 e2 e3 e4 e5 e6 = rw (e6, e5, e4, e3, e2, e1) (simp append_assoc)

pub returns : goal.returns
returns c =
    let before = string_bytes c.push_quoted-2.new.text in
    let named = c.in_ok-push_str-3.ensures.bytes ∙ ap (λ name. string_bytes c.push_str-2.new.self ++ name) c.name.ensures in
    let all : before ++ codes "}" ≡ string_bytes c.args.text.now ++ request_end c.args.id.now c.args.method c.args.url.now =
    appended _ _ _ _ _ _ _ _ _ _ _ _ _ _ c.in_ok-push_str.ensures.bytes c.in_ok-push_quoted.ensures c.in_ok-push_str-2.ensures.bytes named c.in_ok-push_str-4.ensures.bytes c.in_ok-push_quoted-2.ensures in
    let wrote = c.push_str-5.ensures.bytes ∙ ap (λ text. cond (is_ok c.push_str-5.result) text before) all in
    search (rules, wrote)
