use Rattle.std.proofs.Common.{sym, [], ◌∷◌, cond, ap, ◌∙◌}
use Rattle.odb_check.specs.declared.need.Need.TheVariants.{One}
use Rattle.odb_check.proofs.ReferenceLemmas.{RefersTo, refers, further_is, further_none}
use Rattle.odb_check.proofs.names.Resolved.further_need.Goals as goal

pub lists-requires : goal.lists-requires
lists-requires c = (refers c.args.self.now c.in-Some.position (sym c.in-Some.ensures)).within

pub returns-then-lists-clause-none : goal.returns-then-lists-clause-none
returns-then-lists-clause-none c = λ none.
    let to : RefersTo c.args.self.now c.in-Some.position = refers c.args.self.now c.in-Some.position (sym c.in-Some.ensures) in
    further_is c.args.self.now c.in-Some.position to c.lists.result (c.lists.ensures to.id to.there) ∙ ap (λ v. cond v [] (One c.in-Some.position ∷ [])) c.if-lists.true

pub returns-else-lists-clause-some : goal.returns-else-lists-clause-some
returns-else-lists-clause-some c =
    let to : RefersTo c.args.self.now c.in-Some.position = refers c.args.self.now c.in-Some.position (sym c.in-Some.ensures) in
    further_is c.args.self.now c.in-Some.position to c.lists.result (c.lists.ensures to.id to.there) ∙ ap (λ v. cond v [] (One c.in-Some.position ∷ [])) c.if-lists.false

pub returns-in-None-clause-none : goal.returns-in-None-clause-none
returns-in-None-clause-none c = λ none. further_none c.args.self.now (sym c.in-None.ensures) c.requires
