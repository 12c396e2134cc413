use Rattle.std.proofs.Common.{◌≡◌, ◌∙◌, [], inl, inr, refl, sym, rules, arith}
use Rattle.std.proofs.lemmas.List.{nil_from_length}
use Rattle.std.proofs.lemmas.Bool.Decides.{nat_tests}
use Rattle.odb_io.specs.Devices.{AppendsPrefix}
use Rattle.odb_io.proofs.WriteLemmas.{HasWritten-none, HasWritten-more, HasWritten-some, HasWritten-kept, HasWritten-all}
use Rattle.odb_io.proofs.device.Output.put_all.Goals as goal

pub loop-rest-init : goal.loop-rest-init
loop-rest-init g c =
    (c.requires, HasWritten-none (g.W.Write.contents c.args.self.now.writer) c.args.bytes.now, λ _. refl, inr refl)

pub returns-in_err-count-clause-err : goal.returns-in_err-count-clause-err
returns-in_err-count-clause-err g c =
    let contents = g.W.Write.contents in
    let kept = HasWritten-kept (contents c.args.self.now.writer) (contents c.loop-rest.self.writer) (contents c.put.new.self.writer) c.args.bytes.now c.loop-rest.rest.now c.loop-rest.invariant.1 c.in_err-count.ensures.bytes in
    let part : AppendsPrefix (contents c.args.self.now.writer) (contents c.put.new.self.writer) c.args.bytes.now = (c.loop-rest.rest.now, kept) in
    search (rules, part)

pub loop-rest-preserved : goal.loop-rest-preserved
loop-rest-preserved g c =
    let contents = g.W.Write.contents in
    let old = contents c.args.self.now.writer in
    let mid = contents c.loop-rest.self.writer in (
      search rules,
      HasWritten-more old mid (contents c.put.new.self.writer) c.args.bytes.now c.loop-rest.rest.now _ c.loop-rest.invariant.1 c.in_ok-count.ensures.bytes,
      λ none. absurd (HasWritten-some old mid c.args.bytes.now c.loop-rest.rest.now c.loop-rest.invariant.1 (grind (arith, nat_tests)) none),
      inl c.put.ensures.held,
    )

pub returns-clause-ok : goal.returns-clause-ok
returns-clause-ok g c =
    let contents = g.W.Write.contents in
    let none : c.loop-rest.rest.now ≡ [] = nil_from_length c.loop-rest.rest.now (grind (arith, nat_tests)) in
    HasWritten-all (contents c.args.self.now.writer) (contents c.loop-rest.self.writer) c.args.bytes.now c.loop-rest.rest.now none c.loop-rest.invariant.1

pub returns-clause-held : goal.returns-clause-held
returns-clause-held g c =
    let none : c.loop-rest.rest.now ≡ [] = nil_from_length c.loop-rest.rest.now (grind (arith, nat_tests)) in
    λ some. elim c.loop-rest.invariant.3 [ inl held ↦ held | inr all ↦ absurd (some (sym all ∙ none)) ]
