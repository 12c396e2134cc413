use Rattle.std.proofs.Common.{◌∙◌, inl, inr, option_map, sym, rules}
use Rattle.std.specs.Prelude.{string_bytes}
use Rattle.std.proofs.lemmas.Bool.{true≢false}
use Rattle.odb_check.specs.Plans.{plan_records}
use Rattle.odb_send.specs.Answers.{answers_in}
use Rattle.odb_send.specs.Marks.{IsBroken}
use Rattle.odb_send.specs.Rests.IsTag.{stays}
use Rattle.odb_send.specs.Rests.IsUrl.{same}
use Rattle.odb_send.proofs.UrlLemmas.{broken_by}
use Rattle.odb_send.proofs.changes.change_of.Goals as goal

-- a request that is not in the rest stays as it is
pub returns-then-not-is_kept-clause-change : goal.returns-then-not-is_kept-clause-change
returns-then-not-is_kept-clause-change c =
    let out = sym c.is_kept.ensures ∙ c.if-not-is_kept.true in
    record {
      url = same (λ p leaves. true≢false (sym leaves.stays ∙ out));
      if_match = stays (λ p leaves. true≢false (sym leaves.stays ∙ out));
      if_none_match = stays (λ p leaves. true≢false (sym leaves.stays ∙ out));
    }

pub returns-in_err-if_match-clause-broken : goal.returns-in_err-if_match-clause-broken
returns-in_err-if_match-clause-broken c =
    let rs = plan_records c.args.plan.now in
    let all = answers_in c.args.answers.now in
    let fault = c.in_err-if_match.field-0.0 in
    let broken : IsBroken rs c.args.kept.now all c.args.i fault = broken_by rs c.args.kept.now all _ c.args.i (option_map string_bytes c.in_ok-url.url) fault (λ lacks. inl lacks) c.in_ok-url.ensures.url c.in_err-if_match.ensures.lacks in
    search (rules, broken)

pub returns-in_err-if_none_match-clause-broken : goal.returns-in_err-if_none_match-clause-broken
returns-in_err-if_none_match-clause-broken c =
    let rs = plan_records c.args.plan.now in
    let all = answers_in c.args.answers.now in
    let fault = c.in_err-if_none_match.field-0.0 in
    let broken : IsBroken rs c.args.kept.now all c.args.i fault = broken_by rs c.args.kept.now all _ c.args.i (option_map string_bytes c.in_ok-url.url) fault (λ lacks. inr lacks) c.in_ok-url.ensures.url c.in_err-if_none_match.ensures.lacks in
    search (rules, broken)
