use Rattle.std.proofs.Common.{◌≡◌, subst}
use Rattle.std.specs.Prelude.{option_copied}
use Rattle.odb_check.specs.Tables.{unit_among}
use Rattle.odb_check.proofs.TableLemmas.{kept_len, kept_texts}
use Rattle.odb_check.proofs.tables.note_group.Goals as goal

pub returns-else-unit-next-clause-len : goal.returns-else-unit-next-clause-len
returns-else-unit-next-clause-len c =
    let unit_is = subst (λ group. c.args.unit ≡ unit_among c.args.groups.now (option_copied group) c.args.next) c.in-Some.is c.requires in
    rw c.in-Some.is (kept_len c.args.groups.now c.in-Some.name.now c.args.unit c.args.next unit_is c.if-unit-next.false)

pub returns-else-unit-next-clause-texts : goal.returns-else-unit-next-clause-texts
returns-else-unit-next-clause-texts c =
    let unit_is = subst (λ group. c.args.unit ≡ unit_among c.args.groups.now (option_copied group) c.args.next) c.in-Some.is c.requires in
    rw c.in-Some.is (kept_texts c.args.groups.now c.in-Some.name.now c.args.unit c.args.next unit_is c.if-unit-next.false)
