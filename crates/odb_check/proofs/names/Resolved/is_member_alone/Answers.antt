use Rattle.std.proofs.Common.{Some, ap, sym, ◌∙◌, arith}
use Rattle.std.specs.Prelude.{is_some}
use Rattle.std.proofs.lemmas.Bool.{both_ways}
use Rattle.odb_check.proofs.AnyLemmas.{Decides-none, copied_some}
use Rattle.odb_check.proofs.NameLemmas.{alone_Decides}
use Rattle.odb_check.proofs.NeedLemmas.{is_meant}
use Rattle.odb_check.proofs.names.Resolved.is_member_alone.Goals as goal

pub group-requires : goal.group-requires
group-requires c = omega (arith, (c.misses_group_of.ensures.0 c.if-misses_group_of.true).0, c.args.self.now.within)

pub returns-then-misses_group_of : goal.returns-then-misses_group_of
returns-then-misses_group_of c = λ name means.
    let some = c.is_some.ensures ∙ copied_some c.group.result ∙ ap is_some (sym c.group.ensures) in
    alone_Decides c.args.self.now c.in-One.position name _ (is_meant _ name _ (means ∙ ap Some c.in-One.is)) ((λ yes. (c.misses_group_of.ensures.0 c.if-misses_group_of.true, sym some ∙ yes)), (λ m. some ∙ m.1))

pub returns-else-misses_group_of : goal.returns-else-misses_group_of
returns-else-misses_group_of c = λ name means.
    alone_Decides c.args.self.now c.in-One.position name _ (is_meant _ name _ (means ∙ ap Some c.in-One.is)) ((λ yes. absurd (both_ways _ c.if-misses_group_of.false yes)), (λ m. c.misses_group_of.ensures.1 m.0))

pub returns-in-Group : goal.returns-in-Group
returns-in-Group c = λ name means. Decides-none (λ h. (is_meant _ name _ (means ∙ ap Some c.in-Group.is)).no_id h.0 h.2)
