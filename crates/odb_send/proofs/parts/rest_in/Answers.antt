-- The rest of a URL.
use Rattle.std.proofs.Common.{◌-◌, ℕ, List, length, ap, arith, refl}
use Rattle.odb_doc.specs.batch.Records.{record_of}
use Rattle.odb_doc.specs.batch.UrlRests.{url_rest}
use Rattle.odb_send.proofs.PartLemmas.{front-of, rest-fits, rest-part}
use Rattle.odb_send.proofs.parts.rest_in.Goals as goal

pub overflow_sub-result : goal.overflow_sub-result
overflow_sub-result c =
    let r = record_of c.args.request.now in
    omega (arith, rest-fits r.reference r.url, ap (λ (t : List ℕ). length t) c.url_rest.ensures, c.requires)

pub returns : goal.returns
returns c = λ text held.
    let r = record_of c.args.request.now in
    let front = front-of r.reference r.url in
    rest-part text r.url front.0 (url_rest r) c.args.url _ held front.1 (ap (λ (t : List ℕ). c.args.url.end - length t) c.url_rest.ensures) refl
