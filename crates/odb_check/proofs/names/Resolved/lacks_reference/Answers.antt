use Rattle.std.proofs.Common.{sym}
use Rattle.std.proofs.lemmas.Bool.Decides.{not_from_Decides}
use Rattle.odb_check.proofs.AnyLemmas.{Decides-none}
use Rattle.odb_check.proofs.ReferenceLemmas.{RefersTo, refers, unlisted_Decides, unlisted_at, nowhere}
use Rattle.odb_check.proofs.names.Resolved.lacks_reference.Goals as goal

pub lists-requires : goal.lists-requires
lists-requires c = (refers c.args.self.now c.in-Some.position (sym c.in-Some.ensures)).within

pub returns-then-not-lists : goal.returns-then-not-lists
returns-then-not-lists c =
    let to : RefersTo c.args.self.now c.in-Some.position = refers c.args.self.now c.in-Some.position (sym c.in-Some.ensures) in
    unlisted_Decides c.args.self.now c.in-Some.position to (not_from_Decides c.lists.result (c.lists.ensures to.id to.there) c.if-not-lists.true) c.misses_group_of.result c.misses_group_of.ensures

pub returns-else-not-lists : goal.returns-else-not-lists
returns-else-not-lists c =
    let to : RefersTo c.args.self.now c.in-Some.position = refers c.args.self.now c.in-Some.position (sym c.in-Some.ensures) in
    rw c.if-not-lists.false (Decides-none (λ h. (unlisted_at c.args.self.now c.in-Some.position to h).1 ((c.lists.ensures to.id to.there).0 c.if-not-lists.false)))

pub returns-in-None : goal.returns-in-None
returns-in-None c = Decides-none (nowhere c.args.self.now _ (sym c.in-None.ensures) (λ id h. (h.0, h.2)))
