use Rattle.std.proofs.Common.{◌≡◌, ◌∙◌, ◌<◌, ◌++◌, ◌∷◌, [], ℕ, List, length, get_or, sym, ap, arith}
use Rattle.std.specs.Prelude.{Vec}
use Rattle.std.specs.declared.alloc.Global.{Global}
use Rattle.std.specs.Borrow.{Bor}
use Rattle.std.proofs.lemmas.List.{length-map}
use Rattle.odb_check.specs.PlanGraph.{unit_needed}
use Rattle.odb_check.specs.Plans.{plan_records}
use Rattle.odb_check.specs.Positions.{names_at}
use Rattle.odb_doc.specs.Names.{texts_in}
use Rattle.odb_doc.specs.batch.Records.{record_of}
use Rattle.odb_check.specs.Units.{unit_at}
use Rattle.odb_check.specs.declared.need.Need.{Need}
use Rattle.odb_check.specs.declared.need.Need.TheVariants.{One}
use Rattle.odb_send.specs.Rests.{is_kept_name}
use Rattle.odb_send.specs.Units.{marked}
use Rattle.odb_send.proofs.DependsLemmas.{needs_long, kept_there, keep_next, drop_next, names_of, name_there}
use Rattle.odb_send.proofs.names.kept_names.Goals as goal
use Rattle.odb_send.proofs.names.kept_names.Goals.{then-is_marked+in_ok-push, else-is_marked}

pub bounds-needs-k : goal.bounds-needs-k
bounds-needs-k c =
    let rs = plan_records c.args.plan.now in
    let i = c.args.i in
    let names = c.as_slice-names.result.now in
    let listed : names_at rs i ≡ texts_in names = names_of rs i (record_of c.request.result.now) c.request.ensures.value ∙ sym (ap texts_in c.as_slice-names.ensures) in
    let within : c.loop-k.k < length (names_at rs i) = rw (listed, length-map) (omega (arith, c.loop-k-test.true)) in
    rw c.needs-needs.ensures.value (needs_long rs c.every_plan.ensures.good i c.loop-k.k within)

pub loop-k-preserved : goal.loop-k-preserved
loop-k-preserved c =
    let rs = plan_records c.args.plan.now in
    let i = c.args.i in
    let k = c.loop-k.k in
    let kept = c.args.kept.now in
    let names = c.as_slice-names.result.now in
    let none : Bor (List ℕ) = record { ref_ptr = (0, 0); now = [] } in
    let listed : names_at rs i ≡ texts_in names = names_of rs i (record_of c.request.result.now) c.request.ensures.value ∙ sym (ap texts_in c.as_slice-names.ensures) in
    let less : k < length names = omega (arith, c.loop-k-test.true) in
    let within : k < length (names_at rs i) = rw (listed, length-map) less in
    let here : get_or (names_at rs i) k [] ≡ (get_or names k none).now = ap (λ (xs : List (List ℕ)). get_or xs k []) listed ∙ name_there names k none less in
    let same : is_kept_name rs kept (get_or names k none).now ≡ marked kept (unit_needed (unit_at rs) (get_or c.needs-needs.result.now k (One 0))) =
    ap (is_kept_name rs kept) (sym here) ∙ kept_there rs kept c.every_plan.ensures.good i k (One 0) within ∙ ap (λ (needs : List Need). marked kept (unit_needed (unit_at rs) (get_or needs k (One 0)))) (sym c.needs-needs.ensures.value) in
    elim c.if-is_marked.branch [
      | then-is_marked+in_ok-push w ↦
          let items : c.if-is_marked.found.items ≡ c.loop-k.found.items ++ get_or names k none ∷ [] = ap (λ (v : Vec (Bor (List ℕ)) Global). v.items) w.found-is ∙ w.in_ok-push.ensures.items in
          rw items (keep_next (is_kept_name rs kept) names c.loop-k.found.items k none less c.loop-k.invariant (same ∙ sym w.if-is_marked.ensures))
      | else-is_marked w ↦ rw w.found-is (drop_next (is_kept_name rs kept) names c.loop-k.found.items k none less c.loop-k.invariant (same ∙ sym w.if-is_marked.ensures))
    ]
