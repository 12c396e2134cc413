-- A value is one batch.
use Rattle.std.proofs.Common.{◌≡◌, ◌∙◌, ℕ, List, Option, None, Some, option_and_then, codes, refl, sym, subst}
use Rattle.std.specs.List.{AllZip}
use Rattle.serde_json.specs.Data.{Data, null, boolean, number, string, array, object}
use Rattle.serde_json.specs.Find.{get, as_str}
use Rattle.odb_names.specs.Fronts.{FrontForm, HasFront, reference}
use Rattle.odb_names.specs.Methods.{Names}
use Rattle.odb_names.specs.declared.method.Method.{Method}
use Rattle.odb_doc.specs.Headers.{Header}
use Rattle.odb_doc.specs.Members.{given}
use Rattle.odb_doc.proofs.OneLeast.{one_list}
use Rattle.odb_doc.specs.batch.Records.{Record, ReadsAs}
use Rattle.odb_doc.specs.batch.References.{RefersTo}
use Rattle.odb_doc.specs.batch.Shapes.{HasMethod, HasGroup}
use Rattle.odb_doc.proofs.OneHeaders.{one_headers}

-- what the texts below determine
pub record AreOneReading : Type 0 where
  pub front : (url : List ℕ) (front other : FrontForm) → HasFront url front → HasFront url other → front ≡ other
  pub method : (text : List ℕ) (method other : Method) → Names text method → Names text other → method ≡ other

pub one_method : AreOneReading → (d : Data) (method other : Method) → HasMethod d method → HasMethod d other → method ≡ other
one_method texts d method other one two =
    let name : one.name ≡ two.name = cc (one.text, two.text) in
    texts.method two.name method other (subst (λ (text : List ℕ). Names text method) name one.names) two.names

-- a member that is treated as absent is not a string
no_text : (o : Option Data) → given o ≡ None → option_and_then as_str o ≡ None
no_text None is = refl
no_text (Some null) is = refl
no_text (Some (boolean b)) is = absurd (cc (is))
no_text (Some (number n)) is = absurd (cc (is))
no_text (Some (string s)) is = absurd (cc (is))
no_text (Some (array ds)) is = absurd (cc (is))
no_text (Some (object ms)) is = absurd (cc (is))

one_group : (d : Data) (group other : Option (List ℕ)) → HasGroup d group → HasGroup d other → group ≡ other
one_group d None None one two = refl
one_group d None (Some name) one two = absurd (cc (no_text (get (codes "atomicityGroup") d) one, two.0))
one_group d (Some name) None one two = absurd (cc (no_text (get (codes "atomicityGroup") d) two, one.0))
one_group d (Some name) (Some name') one two = cc (one.0, two.0)

one_reference : AreOneReading → (url : List ℕ) (id other : Option (List ℕ)) → RefersTo url id → RefersTo url other → id ≡ other
one_reference texts url None None one two = refl
one_reference texts url None (Some id) one two = absurd (one id two)
one_reference texts url (Some id) None one two = absurd (two id one)
one_reference texts url (Some id) (Some id') one two = cc (texts.front url (reference id) (reference id') one two)

-- a record of these parts
abbrev made : List ℕ → Method → List ℕ → Option (List ℕ) → List (List ℕ) → Option (List ℕ) → List Header → Option Data → Record
made id method url group names referred headers body = record {
  id = id;
  method = method;
  url = url;
  group = group;
  names = names;
  reference = referred;
  headers = headers;
  body = body;
}

one_record : AreOneReading → (d : Data) (r s : Record) → ReadsAs d r → ReadsAs d s → r ≡ s
one_record texts d r s one two =
    let id : r.id ≡ s.id = cc (one.id.text, two.id.text) in
    let method = one_method texts d r.method s.method one.method two.method in
    let url : r.url ≡ s.url = cc (one.url, two.url) in
    let group = one_group d r.group s.group one.group two.group in
    let names : r.names ≡ s.names = cc (one.names, two.names) in
    let referred = one_reference texts s.url r.reference s.reference (subst (λ (u : List ℕ). RefersTo u r.reference) url one.reference) two.reference in
    let headers = one_headers d s.headers r.headers two.headers one.headers in
    let body : r.body ≡ s.body = sym one.body ∙ two.body in
    let same : made r.id r.method r.url r.group r.names r.reference r.headers r.body ≡ made s.id s.method s.url s.group s.names s.reference s.headers s.body = cc (id, method, url, group, names, referred, headers, body) in
    same

pub one_batch : AreOneReading → (ds : List Data) (rs ss : List Record) → AllZip ReadsAs ds rs → AllZip ReadsAs ds ss → rs ≡ ss
one_batch texts ds rs ss one two = one_list ReadsAs (one_record texts) ds rs ss one two
