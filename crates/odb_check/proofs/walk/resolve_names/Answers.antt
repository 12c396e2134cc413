use Rattle.std.proofs.Common.{◌≡◌, ℕ, List, [], None, inl, inr, ap, ◌∙◌, sym, subst, take}
use Rattle.std.specs.Borrow.{Bor}
use Rattle.std.specs.Prelude.{Contains}
use Rattle.std.proofs.lemmas.Bool.{cases_Bool}
use Rattle.std.proofs.lemmas.List.{take_all}
use Rattle.odb_doc.specs.Names.{texts_in}
use Rattle.odb_check.specs.Needs.{need_of}
use Rattle.odb_check.specs.Positions.{names_at}
use Rattle.odb_check.specs.Requests.{requests}
use Rattle.odb_check.proofs.NeedLemmas.{need_within}
use Rattle.odb_check.proofs.WalkLemmas.{name_unknown, names_more, names_past, names_known}
use Rattle.odb_check.proofs.walk.resolve_names.Goals as goal

abbrev no_text : Bor (List ℕ)
no_text = record { ref_ptr = (0, 0); now = [] }

pub mark-requires : goal.mark-requires
mark-requires c =
    let marks = c.loop-name.invariant.resolved.marked.up_to in
    rw (marks.ones_count, marks.groups_count) (need_within (requests c.args.tables.now) _ c.in-Some.need (sym c.in-Some.ensures))

pub loop-name-preserved : goal.loop-name-preserved
loop-name-preserved c = record {
  resolved = names_more (requests c.args.tables.now) c.args.names.now c.loop-name.name-index no_text c.in-Some.need _ c.loop-name-test.true c.in-Some.ensures c.loop-name.invariant.resolved
      c.in_ok-push.ensures.items c.mark.ensures.ones c.mark.ensures.groups;
  unknown = c.loop-name.invariant.unknown;
}

pub loop-name-preserved-in_default : goal.loop-name-preserved-in_default
loop-name-preserved-in_default c = record {
  resolved = names_past (requests c.args.tables.now) c.args.names.now c.loop-name.name-index no_text _ c.loop-name-test.true c.in_default.ensures c.loop-name.invariant.resolved;
  unknown = λ e. name_unknown (requests c.args.tables.now) c.args.i c.args.names.now c.loop-name.name-index no_text c.requires.names c.loop-name-test.true c.in_default.ensures;
}

pub returns-clause-unknown : goal.returns-clause-unknown
returns-clause-unknown c =
    let rs = requests c.args.tables.now in
    let names : texts_in (take c.loop-name.name-index c.args.names.now) ≡ names_at rs c.args.i = ap texts_in (take_all c.loop-name.name-index c.args.names.now c.loop-name-test.false) ∙ c.requires.names in (
      c.loop-name.invariant.unknown,
      λ broken. elim (cases_Bool c.loop-name.has_unknown) [
        | inl some ↦ some
        | inr all ↦ absurd (names_known rs c.args.i (subst (λ xs. (name : List ℕ) → Contains xs name → ¬ (need_of rs name ≡ None)) names (c.loop-name.invariant.resolved.known all)) broken)
      ],
    )
