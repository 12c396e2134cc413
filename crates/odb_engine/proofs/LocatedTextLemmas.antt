-- What is printed of a fault with where it is, and of all faults: one text, if what is printed without is one and they begin alike.
use Rattle.std.proofs.Common.{◌≡◌, ◌∙◌, ℕ, List, [], ◌∷◌, ◌++◌, Option, None, Some, IsSomeAnd, codes, map, inl, inr, refl, sym, ap, ap₂, subst}
use Rattle.std.specs.Fmt.{decimal}
use Rattle.std.specs.List.{All}
use Rattle.std.proofs.lemmas.List.Elements.{All-head, All-tail}
use Rattle.std.proofs.lemmas.Option.{same_Some}
use Rattle.serde_json.specs.Data.{array, member, no_members, number, object, put, string, unsigned}
use Rattle.serde_json.specs.Read.{read}
use Rattle.serde_json.specs.View.{items_of}
use Rattle.serde_json.proofs.OnLiterals.{serde_json_on_literals}
use Rattle.odb_doc.specs.Refusals.{Printed}
use Rattle.odb_doc.specs.declared.fault.Place.{Place}
use Rattle.odb_spans.specs.Positions.{BeginAlike}
use Rattle.odb_spans.specs.declared.position.Position.{Position}
use Rattle.odb_text.specs.Lines.{PrintedAt, fault_line, located_line, located_lines, place_text, unlocated}
use Rattle.odb_text.specs.Places.{FitsWord}
use Rattle.odb_text.specs.Results.{fault_object, fault_value, json_line, object_at}
use Rattle.odb_engine.specs.declared.ending.Ended.{Ended}
use Rattle.odb_engine.specs.declared.ending.Ended.TheVariants.{Done, Refused}
use Rattle.odb_engine.specs.declared.form.Form.{Form}
use Rattle.odb_engine.specs.declared.form.Form.TheVariants.{Lines, Json}
use Rattle.odb_engine.specs.Cascade.{IsOne, WritesIn}
use Rattle.odb_engine.specs.Forms.{all_located_text, fault_text, located_text}
use Rattle.odb_engine.specs.Located.{Locates, ReportsAt, Whereabouts}
use Rattle.odb_engine.proofs.PlaceTextLemmas.{place-one, same-place}

-- ---- a fault with its position, by what is printed of both

line-alike : (name other : List ℕ) (one two : Printed) (p q : Position) → name ≡ other → fault_line one.code one.name one.place ≡ fault_line two.code two.name two.place → BeginAlike p q
    → located_line name (record { refusal = one; position = Some p }) ≡ located_line other (record { refusal = two; position = Some q })
line-alike name other one two p q names same alike = λ k. (names k ++ codes ":" ++ decimal (alike.line k) ++ codes ":" ++ decimal (alike.column k) ++ codes ": ") ++ same k

object-alike : (one two : Printed) (p q : Position) → one.code ≡ two.code → one.name ≡ two.name → place_text one.place ≡ place_text two.place → BeginAlike p q → object_at one (Some p) ≡ object_at two (Some q)
unfolding object_at
object-alike one two p q codes_are names_are places alike = λ k.
    object (
    member (codes "code") (string (codes_are k)) (
    member (codes "name") (string (names_are k)) (
    member (codes "place") (string (places k)) (
    member (codes "line") (number (unsigned (alike.line k))) (
    member (codes "column") (number (unsigned (alike.column k))) (
    member (codes "offset") (number (unsigned (alike.offset k))) no_members))))))

-- the parts of a fault are those of its value
record AreAlike (one two : Printed) : Type 0 where
  code : one.code ≡ two.code
  name : one.name ≡ two.name
  place : place_text one.place ≡ place_text two.place

value-parts : (one two : Printed) → fault_value (unlocated one) ≡ fault_value (unlocated two) → AreAlike one two
unfolding object_at serde_json_on_literals
value-parts one two same = record { code = cc same; name = cc same; place = cc same }

-- the laws that a located text stands on: a fault as JSON is read as its value
abbrev pub IsRead : Type 0
IsRead = (refusal : Printed) → read (json_line (fault_value (unlocated refusal))) ≡ Some (fault_value (unlocated refusal))

value-one : IsRead → (one two : Printed) → fault_text Json one ≡ fault_text Json two → fault_value (unlocated one) ≡ fault_value (unlocated two)
value-one law one two same = same_Some (fault_value (unlocated one)) (fault_value (unlocated two)) (sym (law one) ∙ ap read same ∙ law two)

-- faults of one text are at one place
pub fault-place : IsRead → (form : Form) (one two : Printed) → FitsWord one.place → FitsWord two.place → fault_text form one ≡ fault_text form two → one.place ≡ two.place
fault-place law Lines one two fits too same = same-place one.code one.name one.place two.code two.name two.place fits too same
fault-place law Json one two fits too same = place-one one.place two.place fits too (value-parts one two (value-one law one two same)).place

-- and they have one text with where they are, if they begin alike
text-alike : IsRead → (form : Form) (name other : List ℕ) (one two : Printed) (p q : Position) → name ≡ other → fault_text form one ≡ fault_text form two → BeginAlike p q
    → located_text form name (record { refusal = one; position = Some p }) ≡ located_text form other (record { refusal = two; position = Some q })
text-alike law Lines name other one two p q names same alike = line-alike name other one two p q names same alike
text-alike law Json name other one two p q names same alike =
    let parts = value-parts one two (value-one law one two same) in
    ap (λ d. json_line (object (put (codes "fault") d no_members))) (object-alike one two p q parts.code parts.name parts.place alike)

-- a fault with this place is in one document, and begins at one position of it
abbrev pub IsOnePlace : Whereabouts → Type 0
IsOnePlace IsAt = (place : Place) (name other : List ℕ) (p q : Position) → IsAt place name p → IsAt place other q → (name ≡ other) × BeginAlike p q

pub done-refused : Done ≡ Refused → ⊥
done-refused same = cc (same)

-- one text is written with where a fault is, if one is without
module _ (law : IsRead) (P : WritesIn) (IsAt : Whereabouts) (form : Form) (one : IsOne (P form)) (at : IsOnePlace IsAt) where
  reports-one : (a b : Ended) (s t : List ℕ) → ReportsAt P IsAt form a s → ReportsAt P IsAt form b t → (a ≡ b) × (s ≡ t)
  reports-one a b s t x y =
      let same : fault_text form x.refusal ≡ fault_text form y.refusal = (one Refused Refused _ _ x.reported y.reported).1 in
      let places = fault-place law form x.refusal y.refusal x.fits y.fits same in
      let is = at y.refusal.place x.name y.name x.position y.position (subst (λ place. IsAt place x.name x.position) places x.is_at) y.is_at in
      (x.ends ∙ sym y.ends, x.prints ∙ text-alike law form x.name y.name x.refusal y.refusal x.position y.position is.0 same is.1 ∙ sym y.prints)

  pub locates-one : IsOne (Locates P IsAt form)
  locates-one a b s t (inl x) (inl y) = (x.0 ∙ sym y.0, (one Done Done s t x.1 y.1).1)
  locates-one a b s t (inl x) (inr y) = absurd (done-refused (one Done Refused s _ x.1 y.reported).0)
  locates-one a b s t (inr x) (inl y) = absurd (done-refused (one Done Refused t _ y.1 x.reported).0)
  locates-one a b s t (inr x) (inr y) = reports-one a b s t x y

-- ---- all faults, each with its position

-- the position of a printed fault is one of these
abbrev pub IsPlaced : (Place → Position → Type 0) → PrintedAt → Type 0
IsPlaced At fault = IsSomeAnd fault.position (At fault.refusal.place)

-- positions of a place begin alike
abbrev pub BeginsOnce : (Place → Position → Type 0) → Type 0
BeginsOnce At = (place : Place) (p q : Position) → At place p → At place q → BeginAlike p q

module _ (At : Place → Position → Type 0) (once : BeginsOnce At) (name : List ℕ) where
  fault-same : (r : Printed) (p q : Option Position) → IsSomeAnd p (At r.place) → IsSomeAnd q (At r.place)
      → (located_line name (record { refusal = r; position = p }) ≡ located_line name (record { refusal = r; position = q })) × (object_at r p ≡ object_at r q)
  fault-same r None q here there = absurd here
  fault-same r (Some p) None here there = absurd there
  fault-same r (Some p) (Some q) here there =
      let alike = once r.place p q here there in
      (line-alike name name r r p q refl refl alike, object-alike r r p q refl refl refl alike)

  shown-same : (one two : PrintedAt) → one.refusal ≡ two.refusal → IsPlaced At one → IsPlaced At two → (located_line name one ≡ located_line name two) × (fault_object one ≡ fault_object two)
  shown-same one two same here there =
      let moved = fault-same two.refusal one.position two.position (subst (λ (r : Printed). IsSomeAnd one.position (At r.place)) same here) there in
      (ap (λ (r : Printed). located_line name (record { refusal = r; position = one.position })) same ∙ moved.0, ap (λ (r : Printed). object_at r one.position) same ∙ moved.1)

  pub all-same : (xs ys : List PrintedAt) → map (λ (f : PrintedAt). f.refusal) xs ≡ map (λ (f : PrintedAt). f.refusal) ys → All (IsPlaced At) xs → All (IsPlaced At) ys
      → (located_lines name xs ≡ located_lines name ys) × (map fault_object xs ≡ map fault_object ys)
  all-same [] [] same here there = (refl, refl)
  all-same [] (y ∷ ys) same here there = absurd (cc same)
  all-same (x ∷ xs) [] same here there = absurd (cc same)
  all-same (x ∷ xs) (y ∷ ys) same here there =
      let first : x.refusal ≡ y.refusal = cc same in
      let others : map (λ (f : PrintedAt). f.refusal) xs ≡ map (λ (f : PrintedAt). f.refusal) ys = cc same in
      let head = shown-same x y first (All-head (IsPlaced At) x xs here) (All-head (IsPlaced At) y ys there) in
      let rest = all-same xs ys others (All-tail (IsPlaced At) x xs here) (All-tail (IsPlaced At) y ys there) in
      (ap₂ (λ a b. a ++ b) head.0 rest.0, ap₂ (λ d ds. d ∷ ds) head.1 rest.1)

  pub all-listed : (form : Form) (xs ys : List PrintedAt) → (located_lines name xs ≡ located_lines name ys) × (map fault_object xs ≡ map fault_object ys) → all_located_text form name xs ≡ all_located_text form name ys
  all-listed Lines xs ys same = same.0
  all-listed Json xs ys same = ap (λ ds. json_line (object (put (codes "faults") (array (items_of ds)) no_members))) same.1
