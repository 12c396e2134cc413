-- A finished run beside its plan is the run by the ids and groups of the plan.
use Rattle.std.proofs.Common.{◌≡◌, ◌∙◌, refl, ap, sym, length, List, []}
use Rattle.std.proofs.lemmas.List.{length-map}
use Rattle.odb_doc.specs.batch.Records.{Record}
use Rattle.odb_sched.specs.run.Answers.{answer}
use Rattle.odb_sched.specs.run.State.{State, size, with_requests}
use Rattle.odb_reply.specs.BodyTexts.{text_with}
use Rattle.odb_reply.proofs.RestLemmas.{text_with-none}
use Rattle.odb_reply.specs.Responses.{label_of, labels_of, response_text, response_value, text_of, value_of}

pub labels_count : (state run : State) (rs : List Record) → with_requests state.requests run ≡ state → rs ≡ state.requests → size state ≡ length state.requests → length (labels_of rs) ≡ size run
labels_count state run rs same is count = length-map rs label_of ∙ ap length is ∙ sym count ∙ sym (ap size same)

pub text_beside : (state run : State) (rs : List Record) → with_requests state.requests run ≡ state → rs ≡ state.requests → text_of (labels_of rs) (answer run) ≡ response_text state
text_beside state run rs same is = ap (λ (all : List Record). text_of (labels_of all) (answer run)) is ∙ ap response_text same

pub value_beside : (state run : State) (rs : List Record) → with_requests state.requests run ≡ state → rs ≡ state.requests → value_of (labels_of rs) (answer run) ≡ response_value state
value_beside state run rs same is = ap (λ (all : List Record). value_of (labels_of all) (answer run)) is ∙ ap response_value same

-- no body of it was reported as text
pub untexted_beside : (state run : State) (rs : List Record) → with_requests state.requests run ≡ state → rs ≡ state.requests → text_with (labels_of rs) [] (answer run) ≡ response_text state
untexted_beside state run rs same is = text_with-none (labels_of rs) [] (answer run) (λ i. refl) ∙ text_beside state run rs same is
