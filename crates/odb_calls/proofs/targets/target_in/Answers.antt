-- Where a request is sent, by texts.
use Rattle.std.proofs.Common.{◌∙◌, ap, map}
use Rattle.odb_calls.specs.Targets.{IsService}
use Rattle.odb_calls.specs.Targets.IsRefused.{Led}
use Rattle.odb_calls.proofs.TargetLemmas.{both, refuses-weaker}
use Rattle.odb_calls.proofs.targets.target_in.Goals as goal

pub returns-clause-sent : goal.returns-clause-sent
returns-clause-sent c =
    let service = c.service_of-service.result in
    let is : IsService c.args.base.now c.args.roots.now service = record { base_is = c.service_of-service.ensures.base; roots_are = ap (map (λ root. root.now)) (c.service_of-service.ensures.roots ∙ c.deref.ensures.value) ∙ c.in_ok-roots.ensures } in
    both c.target.result _ _ _ (λ text leads below. record { service = service; of = is; leads = leads; below = below }) c.target.ensures.leads c.target.ensures.below

pub returns-clause-refused : goal.returns-clause-refused
returns-clause-refused c =
    let service = c.service_of-service.result in
    let is : IsService c.args.base.now c.args.roots.now service = record { base_is = c.service_of-service.ensures.base; roots_are = ap (map (λ root. root.now)) (c.service_of-service.ensures.roots ∙ c.deref.ensures.value) ∙ c.in_ok-roots.ensures } in
    refuses-weaker c.target.result _ _ (λ refusal leads. Led service is leads) c.target.ensures.refused
