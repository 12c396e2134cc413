-- Each exit of the reader, by the rules that are decided there.
use Rattle.std.proofs.Common.{◌≡◌, ◌∙◌, false, true, option_map, bytes_eq, string_bytes, IfSome, rules}
use Rattle.std.specs.List.{list_any}
use Rattle.serde_json.specs.View.{view, number_view}
use Rattle.odb_doc.specs.recorded.Outcomes.{IsStatus}
use Rattle.odb_doc.specs.WholeNumbers.{IsWhole}
use Rattle.odb_doc.proofs.OutcomeLemmas.{BreaksOutcome-twice, BreaksOutcome-not_twice, BreaksOutcome-status, BreaksOutcome-good_status, BreaksOutcome-not_whole, BreaksOutcome-whole, below_61, below_62, below_63, breaks_none}
use Rattle.odb_doc.proofs.recorded.outcomes.status_in.Goals as goal

pub returns-then-repeats-clause-first : goal.returns-then-repeats-clause-first
returns-then-repeats-clause-first c = λ d before raw repeats.
    let id = string_bytes c.args.raw.now.id in
    let any : list_any (bytes_eq id) before ≡ true = repeats id raw.id ∙ c.if-repeats.true in
    record {
      broken = BreaksOutcome-twice before d id raw.id any;
      least = below_61 before d raw.object;
    }

pub returns-in_default-clause-first : goal.returns-in_default-clause-first
returns-in_default-clause-first c = λ d before raw repeats.
    let id = string_bytes c.args.raw.now.id in
    let none : list_any (bytes_eq id) before ≡ false = repeats id raw.id ∙ c.if-repeats.false in
    let bad : ¬ IsStatus (number_view c.args.raw.now.status) = search rules in
    record {
      broken = BreaksOutcome-status before d (number_view c.args.raw.now.status) raw.status bad;
      least = below_62 before d raw.object (BreaksOutcome-not_twice before d id raw.id none);
    }

pub returns-then-not-has_whole_body-clause-first : goal.returns-then-not-has_whole_body-clause-first
returns-then-not-has_whole_body-clause-first c = λ d before raw repeats.
    let id = string_bytes c.args.raw.now.id in
    let none : list_any (bytes_eq id) before ≡ false = repeats id raw.id ∙ c.if-repeats.false in
    let good : IsStatus (number_view c.args.raw.now.status) = search rules in
    let body : ¬ IfSome (option_map view c.args.raw.now.body) IsWhole = search rules in
    record {
      broken = BreaksOutcome-not_whole before d (option_map view c.args.raw.now.body) raw.body body;
      least = below_63 before d raw.object (BreaksOutcome-not_twice before d id raw.id none) (BreaksOutcome-good_status before d (number_view c.args.raw.now.status) raw.status good);
    }

pub returns-clause-unbroken : goal.returns-clause-unbroken
returns-clause-unbroken c = λ d before raw repeats.
    let id = string_bytes c.args.raw.now.id in
    let none : list_any (bytes_eq id) before ≡ false = repeats id raw.id ∙ c.if-repeats.false in
    let good : IsStatus (number_view c.args.raw.now.status) = search rules in
    let body : IfSome (option_map view c.args.raw.now.body) IsWhole = search rules in
    breaks_none before d raw.object
    (BreaksOutcome-not_twice before d id raw.id none)
    (BreaksOutcome-good_status before d (number_view c.args.raw.now.status) raw.status good)
    (BreaksOutcome-whole before d (option_map view c.args.raw.now.body) raw.body body)
