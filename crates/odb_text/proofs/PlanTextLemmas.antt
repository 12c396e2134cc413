-- The text of a plan determines the plan: a line is a request, and its words are those between blanks.
use Rattle.std.proofs.Common.{◌≡◌, ◌∙◌, ◌<◌, ◌≤◌, ◌^◌, ℕ, zero, suc, Bool, true, false, ◌||◌, List, [], ◌∷◌, ◌++◌, length, map, Option, None, Some, IfSome, refl, sym, ap, subst, arith, codes, append_assoc, append-nil}
use Rattle.std.specs.Prelude.{◌==◌, decimal}
use Rattle.std.specs.Char.{digit_value}
use Rattle.std.specs.List.{AllPass, AllZip, flat_map}
use Rattle.std.specs.Str.Parse.{AllDigits}
use Rattle.std.proofs.lemmas.Bool.{eq-eqb, false≢true, ne_eqb, or_from, or_parts}
use Rattle.std.proofs.lemmas.Fmt.{decimal_is_IsNumeral}
use Rattle.std.proofs.lemmas.Grind.{flat_map-append}
use Rattle.std.proofs.lemmas.List.Elements.{All-head, All-tail}
use Rattle.std.proofs.lemmas.Option.{same_Some}
use Rattle.serde_json.specs.Data.{Data}
use Rattle.odb_names.specs.Identifiers.{IsRequestId, is_unreserved}
use Rattle.odb_doc.specs.batch.Records.{Record, IsBatchOf, ReadsAs}
use Rattle.odb_doc.specs.batch.Shapes.{HasGroup, elements}
use Rattle.odb_check.specs.declared.need.Need.{Need}
use Rattle.odb_check.specs.declared.need.Need.TheVariants.{One, Group}
use Rattle.odb_check.specs.Firsts.{joined_below, list_below}
use Rattle.odb_check.specs.Levels.{level_at}
use Rattle.odb_check.specs.Needs.{need_of, needed_names, needs_at}
use Rattle.odb_check.specs.Positions.{group_at, id_at}
use Rattle.odb_check.specs.Texts.{further_text, group_text, line_head, names_text, need_name, plan_line, plan_text}
use Rattle.odb_check.proofs.NeedLemmas.{is_meant}
use Rattle.odb_text.specs.Lines.{id_text}
use Rattle.odb_text.specs.SamePlans.{IsSamePlan}
use Rattle.odb_text.proofs.JsonLemmas.{levels-low}
use Rattle.odb_text.proofs.SamePlanLemmas.{AreKnown, below-one, id-some, known, same-plan}

-- ---- texts without a byte

abbrev pub has : ℕ → List ℕ → Bool
has c [] = false
has c (x ∷ xs) = (x == c) || has c xs

pub lacks-append : (c : ℕ) (a b : List ℕ) → has c a ≡ false → has c b ≡ false → has c (a ++ b) ≡ false
lacks-append c [] b left right = right
lacks-append c (x ∷ a) b left right = let parts = or_parts (x == c) (has c a) left in or_from (x == c) _ parts.0 (lacks-append c a b parts.1 right)

apart : (c y : ℕ) (b : List ℕ) → has c (y ∷ b) ≡ false → y ≡ c → ⊥
apart c y b lacks same = false≢true (sym (or_parts (y == c) (has c b) lacks).0 ∙ eq-eqb y c same)

-- two texts up to the first such byte are one, and so are the rests
split-one : (c : ℕ) (a b s t : List ℕ) → has c a ≡ false → has c b ≡ false → a ++ c ∷ s ≡ b ++ c ∷ t → (a ≡ b) × (s ≡ t)
split-one c [] [] s t left right same = (refl, cc same)
split-one c [] (y ∷ b) s t left right same = absurd (apart c y b right (cc same))
split-one c (x ∷ a) [] s t left right same = absurd (apart c x a left (cc same))
split-one c (x ∷ a) (y ∷ b) s t left right same =
    let first : x ≡ y = cc same in
    let rest = split-one c a b s t (or_parts (x == c) (has c a) left).1 (or_parts (y == c) (has c b) right).1 (cc same) in
    (λ k. first k ∷ rest.0 k, rest.1)

-- no text without the byte has it in it
not-within : (c : ℕ) (a b s : List ℕ) → has c a ≡ false → a ≡ b ++ c ∷ s → ⊥
not-within c [] [] s lacks same = cc same
not-within c [] (y ∷ b) s lacks same = cc same
not-within c (x ∷ a) [] s lacks same = apart c x a lacks (cc same)
not-within c (x ∷ a) (y ∷ b) s lacks same = not-within c a b s (or_parts (x == c) (has c a) lacks).1 (cc same)

cancel : (p s t : List ℕ) → p ++ s ≡ p ++ t → s ≡ t
cancel [] s t same = same
cancel (x ∷ p) s t same = cancel p s t (cc same)

lacks-passing : (c : ℕ) → is_unreserved c ≡ false → (text : List ℕ) → AllPass is_unreserved text → has c text ≡ false
lacks-passing c bad [] each = refl
lacks-passing c bad (x ∷ text) each =
    or_from (x == c) _ (ne_eqb x c (λ same. false≢true (sym bad ∙ ap is_unreserved (sym same) ∙ All-head (λ y. is_unreserved y ≡ true) x text each)))
    (lacks-passing c bad text (All-tail (λ y. is_unreserved y ≡ true) x text each))

pub lacks-name : (c : ℕ) → is_unreserved c ≡ false → (text : List ℕ) → IsRequestId text → has c text ≡ false
lacks-name c bad text is = lacks-passing c bad text is.1

lacks-digits : (c : ℕ) → 10 ≤ digit_value c → (ds : List ℕ) → AllDigits 10 ds → has c ds ≡ false
lacks-digits c high [] each = refl
lacks-digits c high (d ∷ ds) (digit, rest) =
    or_from (d == c) _ (ne_eqb d c (λ same. let below : digit_value c < 10 = subst (λ (y : ℕ). digit_value y < 10) same digit in absurd (omega (arith, below, high)))) (lacks-digits c high ds rest)

lacks-decimal : (c n : ℕ) → 10 ≤ digit_value c → n < 2 ^ 64 → has c (decimal n) ≡ false
lacks-decimal c n high small = lacks-digits c high (decimal n) (decimal_is_IsNumeral n small).0.1

-- ---- names

abbrev pub AreNamed : List Record → Type 0
AreNamed [] = Unit {0}
AreNamed (r ∷ rs) = (IsRequestId r.id × IfSome r.group IsRequestId) × AreNamed rs

group-named : (d : Data) (group : Option (List ℕ)) → HasGroup d group → IfSome group IsRequestId
group-named d None is = tt
group-named d (Some group) is = is.1

pub elements-named : (ds : List Data) (rs : List Record) → AllZip ReadsAs ds rs → AreNamed rs
elements-named [] [] is = tt
elements-named [] (r ∷ rs) is = absurd is
elements-named (d ∷ ds) [] is = absurd is
elements-named (d ∷ ds) (r ∷ rs) (here, rest) = ((here.id.form, group-named d r.group here.group), elements-named ds rs rest)

pub id-form : (rs : List Record) → AreNamed rs → (i : ℕ) (id : List ℕ) → id_at rs i ≡ Some id → IsRequestId id
id-form [] all i id is = absurd (cc is)
id-form (r ∷ rs) all zero id is = subst IsRequestId (same_Some r.id id is) all.0.0
id-form (r ∷ rs) all (suc i) id is = id-form rs all.1 i id is

group-forms : (rs : List Record) → AreNamed rs → (i : ℕ) → IfSome (group_at rs i) IsRequestId
group-forms [] all i = tt
group-forms (r ∷ rs) all zero = all.0.1
group-forms (r ∷ rs) all (suc i) = group-forms rs all.1 i

group-form : (rs : List Record) → AreNamed rs → (i : ℕ) (group : List ℕ) → group_at rs i ≡ Some group → IsRequestId group
group-form rs all i group is = subst (λ (found : Option (List ℕ)). IfSome found IsRequestId) is (group-forms rs all i)

need-form : (rs : List Record) → AreNamed rs → (name : List ℕ) (need : Need) → need_of rs name ≡ Some need → IsRequestId name
need-form rs all name (One p) is = id-form rs all p name (is_meant rs name (One p) is).1.here
need-form rs all name (Group u) is = let unit = (is_meant rs name (Group u) is).unit in group-form rs all unit.start name unit.first.here

abbrev HaveNames : List Record → List Need → Type 0
HaveNames rs [] = Unit {0}
HaveNames rs (need ∷ needs) = IsRequestId (need_name rs need) × HaveNames rs needs

have-names : (rs : List Record) → AreNamed rs → (needs : List Need) → AreKnown rs needs → HaveNames rs needs
have-names rs all [] are = tt
have-names rs all (need ∷ needs) (here, rest) = (need-form rs all (need_name rs need) need here, have-names rs all needs rest)

-- ---- the names of dependencies

further-one : (rs os : List Record) (xs ys : List Need) → HaveNames rs xs → HaveNames os ys → (a b : List ℕ) → has 44 a ≡ false → has 44 b ≡ false → a ++ further_text rs xs ≡ b ++ further_text os ys
    → (a ≡ b) × (map (need_name rs) xs ≡ map (need_name os) ys)
further-one rs os [] [] few some a b left right same = (sym (append-nil a) ∙ same ∙ append-nil b, refl)
further-one rs os [] (y ∷ ys) few some a b left right same = absurd (not-within 44 a b (need_name os y ++ further_text os ys) left (sym (append-nil a) ∙ same))
further-one rs os (x ∷ xs) [] few some a b left right same = absurd (not-within 44 b a (need_name rs x ++ further_text rs xs) right (sym (append-nil b) ∙ sym same))
further-one rs os (x ∷ xs) (y ∷ ys) (one, few) (other, some) a b left right same =
    let (here, there) = split-one 44 a b (need_name rs x ++ further_text rs xs) (need_name os y ++ further_text os ys) left right same in
    let (name, names) = further-one rs os xs ys few some (need_name rs x) (need_name os y) (lacks-name 44 refl _ one) (lacks-name 44 refl _ other) there in
    (here, λ k. name k ∷ names k)

star-apart : (name rest : List ℕ) → IsRequestId name → codes "*" ≡ name ++ rest → ⊥
star-apart [] rest is same = is.0 refl
star-apart (x ∷ name) rest is same = apart 42 x name (lacks-name 42 refl (x ∷ name) is) (cc same)

names-one : (rs os : List Record) (xs ys : List Need) → HaveNames rs xs → HaveNames os ys → names_text rs xs ≡ names_text os ys → map (need_name rs) xs ≡ map (need_name os) ys
names-one rs os [] [] few some same = refl
names-one rs os [] (y ∷ ys) few some same = absurd (star-apart (need_name os y) (further_text os ys) some.0 same)
names-one rs os (x ∷ xs) [] few some same = absurd (star-apart (need_name rs x) (further_text rs xs) few.0 (sym same))
names-one rs os (x ∷ xs) (y ∷ ys) (one, few) (other, some) same =
    let (name, names) = further-one rs os xs ys few some (need_name rs x) (need_name os y) (lacks-name 44 refl _ one) (lacks-name 44 refl _ other) same in
    λ k. name k ∷ names k

further-lacks : (rs : List Record) (needs : List Need) → HaveNames rs needs → has 10 (further_text rs needs) ≡ false
further-lacks rs [] have = refl
further-lacks rs (need ∷ needs) have = lacks-append 10 (need_name rs need) (further_text rs needs) (lacks-name 10 refl _ have.0) (further-lacks rs needs have.1)

names-lack : (rs : List Record) (needs : List Need) → HaveNames rs needs → has 10 (names_text rs needs) ≡ false
names-lack rs [] have = refl
names-lack rs (need ∷ needs) have = lacks-append 10 (need_name rs need) (further_text rs needs) (lacks-name 10 refl _ have.0) (further-lacks rs needs have.1)

-- ---- groups

group-lacks : (c : ℕ) → is_unreserved c ≡ false → has c (codes "*") ≡ false → (group : Option (List ℕ)) → IfSome group IsRequestId → has c (group_text group) ≡ false
group-lacks c bad star None is = star
group-lacks c bad star (Some group) is = lacks-name c bad group is

group-one : (group other : Option (List ℕ)) → IfSome group IsRequestId → IfSome other IsRequestId → group_text group ≡ group_text other → group ≡ other
group-one None None one two same = refl
group-one (Some g) (Some h) one two same = ap Some same
group-one None (Some h) one two same = absurd (star-apart h [] two (same ∙ sym (append-nil h)))
group-one (Some g) None one two same = absurd (star-apart g [] one (sym same ∙ sym (append-nil g)))

-- ---- a line

spread : (i level : ℕ) (id group rest : List ℕ)
    → line_head i id level group ++ rest ≡ decimal i ++ (32 ∷ (id ++ (32 ∷ (codes "level " ++ (decimal level ++ (32 ∷ (codes "group " ++ (group ++ (32 ∷ (codes "needs " ++ rest))))))))))
spread i level id group rest = simp append_assoc

abbrev pub Lack : ℕ → List ℕ → Type 0
Lack c text = has c text ≡ false

fields-one : (i level level' : ℕ) (id id' group group' names names' : List ℕ) → i < 2 ^ 64 → level < 2 ^ 64 → level' < 2 ^ 64 → Lack 32 id → Lack 32 id' → Lack 32 group → Lack 32 group' → Lack 10 names → Lack 10 names'
    → line_head i id level group ++ names ++ 10 ∷ [] ≡ line_head i id' level' group' ++ names' ++ 10 ∷ [] → (id ≡ id') × ((group ≡ group') × (names ≡ names'))
fields-one i level level' id id' group group' names names' small low low' a a' b b' n n' same =
    let left = append_assoc (line_head i id level group) names (10 ∷ []) ∙ spread i level id group (names ++ 10 ∷ []) in
    let right = append_assoc (line_head i id' level' group') names' (10 ∷ []) ∙ spread i level' id' group' (names' ++ 10 ∷ []) in
    let all = sym left ∙ same ∙ right in
    let number = lacks-decimal 32 i (omega arith) small in
    let (one, after) = split-one 32 (decimal i) (decimal i) _ _ number number all in
    let (ids, rest) = split-one 32 id id' _ _ a a' after in
    let (levels, more) = split-one 32 (decimal level) (decimal level') _ _ (lacks-decimal 32 level (omega arith) low) (lacks-decimal 32 level' (omega arith) low') (cancel (codes "level ") _ _ rest) in
    let (groups, last) = split-one 32 group group' _ _ b b' (cancel (codes "group ") _ _ more) in
    let (words, none) = split-one 10 names names' [] [] n n' (cancel (codes "needs ") _ _ last) in
    (ids, (groups, words))

-- ---- the lines

abbrev pub IsLine : List ℕ → Type 0
IsLine text = (body : List ℕ) × (Lack 10 body × (text ≡ body ++ 10 ∷ []))

abbrev pub AreLines : List (List ℕ) → Type 0
AreLines [] = Unit {0}
AreLines (line ∷ lines) = IsLine line × AreLines lines

abbrev pub joined : List (List ℕ) → List ℕ
joined lines = flat_map (λ (line : List ℕ). line) lines

not-empty : (body rest : List ℕ) → [] ≡ (body ++ 10 ∷ []) ++ rest → ⊥
not-empty [] rest same = cc same
not-empty (x ∷ body) rest same = cc same

lines-one : (xs ys : List (List ℕ)) → AreLines xs → AreLines ys → joined xs ≡ joined ys → xs ≡ ys
lines-one [] [] left right same = refl
lines-one [] (y ∷ ys) left ((body, (lacks, is)), rest) same = absurd (not-empty body (joined ys) (same ∙ ap (λ (line : List ℕ). line ++ joined ys) is))
lines-one (x ∷ xs) [] ((body, (lacks, is)), rest) right same = absurd (not-empty body (joined xs) (sym same ∙ ap (λ (line : List ℕ). line ++ joined xs) is))
lines-one (x ∷ xs) (y ∷ ys) ((body, (lacks, is)), rest) ((other, (none, also)), more) same =
    let left = ap (λ (line : List ℕ). line ++ joined xs) is ∙ append_assoc body (10 ∷ []) (joined xs) in
    let right = ap (λ (line : List ℕ). line ++ joined ys) also ∙ append_assoc other (10 ∷ []) (joined ys) in
    let (here, there) = split-one 10 body other (joined xs) (joined ys) lacks none (sym left ∙ same ∙ right) in
    let first : x ≡ y = is ∙ ap (λ (line : List ℕ). line ++ 10 ∷ []) here ∙ sym also in
    λ k. first k ∷ lines-one xs ys rest more there k

lines-more : (lines : List (List ℕ)) (line : List ℕ) → AreLines lines → IsLine line → AreLines (lines ++ line ∷ [])
lines-more [] line all is = (is, tt)
lines-more (x ∷ lines) line all is = (all.0, lines-more lines line all.1 is)

pub lines-below : (n : ℕ) (f : ℕ → List ℕ) → ((i : ℕ) → i < n → IsLine (f i)) → AreLines (list_below n f)
lines-below zero f each = tt
lines-below (suc n) f each = lines-more (list_below n f) (f n) (lines-below n f (λ i less. each i (omega (arith, less)))) (each n (omega arith))

pub joined-below : (n : ℕ) (f : ℕ → List ℕ) → joined_below n f ≡ joined (list_below n f)
joined-below zero f = refl
joined-below (suc n) f =
    ap (λ (text : List ℕ). text ++ f n) (joined-below n f) ∙ ap (λ (last : List ℕ). joined (list_below n f) ++ last) (sym (append-nil (f n))) ∙ sym (flat_map-append (λ (line : List ℕ). line) (list_below n f) (f n ∷ []))

-- ---- plans

-- what the words of each line of a plan lack
pub record HasWords (rs : List Record) (i : ℕ) : Type 0 where
  pub small : i < 2 ^ 64
  pub low : level_at rs i < 2 ^ 64
  pub id : IsRequestId (id_text rs i)
  pub group : IfSome (group_at rs i) IsRequestId
  pub names : HaveNames rs (needs_at rs i)

pub has-words : (rs : List Record) → AreNamed rs → length rs < 2 ^ 64 → (i : ℕ) → i < length rs → HasWords rs i
has-words rs all few i less = record {
  small = omega (arith, less, few);
  low = omega (arith, levels-low rs (length rs) i, few);
  id = id-form rs all i (id_text rs i) (id-some rs i less);
  group = group-forms rs all i;
  names = have-names rs all (needs_at rs i) (known rs (needed_names rs i));
}

pub line-is : (rs : List Record) (i : ℕ) → HasWords rs i → IsLine (plan_line rs i)
line-is rs i words =
    let id = id_text rs i in
    let group = group_text (group_at rs i) in
    let names = names_text rs (needs_at rs i) in
    let head = line_head i id (level_at rs i) group in
    let small : 10 ≤ digit_value 10 = omega arith in
    let number = decimal i ++ codes " " in
    let level = number ++ id ++ codes " level " in
    let end = level ++ decimal (level_at rs i) ++ codes " group " in
    let first = lacks-append 10 (decimal i) (codes " ") (lacks-decimal 10 i small words.small) refl in
    let second = lacks-append 10 (number ++ id) (codes " level ") (lacks-append 10 number id first (lacks-name 10 refl id words.id)) refl in
    let third = lacks-append 10 (level ++ decimal (level_at rs i)) (codes " group ") (lacks-append 10 level (decimal (level_at rs i)) second (lacks-decimal 10 (level_at rs i) small words.low)) refl in
    let lacks = lacks-append 10 (end ++ group) (codes " needs ") (lacks-append 10 end group third (group-lacks 10 refl refl (group_at rs i) words.group)) refl in
    (head ++ names, (lacks-append 10 head names lacks (names-lack rs (needs_at rs i) words.names), refl))

pub text-one : (value other : Data) (rs os : List Record) → IsBatchOf value rs → IsBatchOf other os → length rs < 2 ^ 64 → length os < 2 ^ 64 → plan_text rs ≡ plan_text os → IsSamePlan rs os
text-one value other rs os is also few some same =
    let named = elements-named (elements value) rs is in
    let others = elements-named (elements other) os also in
    let words = has-words rs named few in
    let more = has-words os others some in
    let lines = lines-one (list_below (length rs) (plan_line rs)) (list_below (length os) (plan_line os)) (lines-below (length rs) (plan_line rs) (λ i less. line-is rs i (words i less))) (lines-below (length os) (plan_line os) (λ i less. line-is os i (more i less)))
    (sym (joined-below (length rs) (plan_line rs)) ∙ same ∙ joined-below (length os) (plan_line os)) in
    let (count, each) = below-one (length rs) (length os) (plan_line rs) (plan_line os) [] lines in
    same-plan rs os count (λ i less.
    let w = words i less in
    let v = more i (omega (arith, less, count)) in
    let (id, (group, names)) = fields-one i (level_at rs i) (level_at os i) (id_text rs i) (id_text os i) (group_text (group_at rs i)) (group_text (group_at os i)) (names_text rs (needs_at rs i)) (names_text os (needs_at os i)) w.small w.low v.low
    (lacks-name 32 refl _ w.id) (lacks-name 32 refl _ v.id) (group-lacks 32 refl refl (group_at rs i) w.group) (group-lacks 32 refl refl (group_at os i) v.group)
    (names-lack rs (needs_at rs i) w.names) (names-lack os (needs_at os i) v.names) (each i less) in
    (group-one (group_at rs i) (group_at os i) w.group v.group group, (id, names-one rs os (needs_at rs i) (needs_at os i) w.names v.names names)))
