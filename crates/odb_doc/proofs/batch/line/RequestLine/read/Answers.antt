use Rattle.std.proofs.Common.{◌≡◌, ◌∙◌, None, IsNone, IsSome, ap, codes, option_and_then, refl, rules, subst}
use Rattle.serde_json.specs.Find.{as_object, as_str, get}
use Rattle.serde_json.specs.View.{view}
use Rattle.odb_doc.specs.declared.fault.RequestRule.TheVariants as request
use Rattle.odb_doc.specs.batch.Shapes.{url_of}
use Rattle.odb_doc.specs.Members.{HasUnknown, request_names}
use Rattle.odb_doc.specs.BrokenRules.{IsRequestObject}
use Rattle.odb_doc.proofs.UnbrokenLemmas.{breaks_one}
use Rattle.odb_doc.proofs.batch.line.RequestLine.read.Goals as goal

pub returns-then-not-is_object-clause-none : goal.returns-then-not-is_object-clause-none
returns-then-not-is_object-clause-none c =
    let none : IsNone (as_object (view c.args.element.now)) = search rules in
    breaks_one (view c.args.element.now) request.NotRequestObject none

pub returns-then-is_some-clause-none : goal.returns-then-is_some-clause-none
returns-then-is_some-clause-none c =
    let d = view c.args.element.now in
    let some : IsSome (get (codes "if") d) = search rules in
    breaks_one d request.IfMember some

pub returns-then-members-clause-none : goal.returns-then-members-clause-none
returns-then-members-clause-none c =
    let d = view c.args.element.now in
    let unknown : HasUnknown request_names d = search rules in
    breaks_one d request.UnknownRequestMember unknown

pub returns-in_err-id_of-clause-none : goal.returns-in_err-id_of-clause-none
returns-in_err-id_of-clause-none c =
    let d = view c.args.element.now in
    let object : IsSome (as_object d) = search rules in
    let why : ¬ IsRequestObject d = breaks_one d request.BadId (object, c.in_err-id_of.ensures d c.requires) in
    search (rules, why)

pub returns-in_err-method_of-clause-none : goal.returns-in_err-method_of-clause-none
returns-in_err-method_of-clause-none c =
    let d = view c.args.element.now in
    let object : IsSome (as_object d) = search rules in
    let why : ¬ IsRequestObject d = breaks_one d request.BadMethod (object, c.in_err-method_of.ensures d c.requires) in
    search (rules, why)

pub returns-in_err-text_in-clause-none : goal.returns-in_err-text_in-clause-none
returns-in_err-text_in-clause-none c =
    let d = view c.args.element.now in
    let object : IsSome (as_object d) = search rules in
    let none : None ≡ url_of d = c.in_err-text_in.ensures ∙ ap (option_and_then as_str) c.requires.url in
    let why : ¬ IsRequestObject d = breaks_one d request.BadUrl (object, subst IsNone none refl) in
    search (rules, why)

pub returns-in_err-group_of-clause-none : goal.returns-in_err-group_of-clause-none
returns-in_err-group_of-clause-none c =
    let d = view c.args.element.now in
    let object : IsSome (as_object d) = search rules in
    let why : ¬ IsRequestObject d = breaks_one d request.BadGroup (object, c.in_err-group_of.ensures d c.requires) in
    search (rules, why)
