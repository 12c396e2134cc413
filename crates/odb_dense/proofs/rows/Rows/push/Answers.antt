use Rattle.std.proofs.Common.{◌≡◌, ◌++◌, ap, arith, rules, length}
use Rattle.odb_dense.specs.Parts.{rows_of}
use Rattle.odb_dense.proofs.PartLemmas.{parts_stay, rows_more}
use Rattle.odb_dense.proofs.rows.Rows.push.Goals as goal

pub returns-clause-ok : goal.returns-clause-ok
returns-clause-ok g c =
    let flat = c.self.inside.flat in
    let longer = c.extend_from_slice.new.self in
    let added : longer.items ≡ flat.items ++ c.args.row.now = c.in_ok-extend_from_slice.ensures.items in
    let begins : c.in_ok-from.from ≡ length flat.items = omega (arith, c.in_ok-from.ensures, c.len.ensures, flat.ok) in
    let ends : c.in_ok-to.to ≡ length (flat.items ++ c.args.row.now) = omega (arith, c.in_ok-to.ensures, c.len-2.ensures, longer.ok, ap length added) in
    rw (added, c.in_ok-push.ensures.items, ← c.self.view_is) (rows_more flat.items c.args.row.now c.self.inside.parts.items _ _ c.self.invariant begins ends)

pub returns-in_err-to-clause-err : goal.returns-in_err-to-clause-err
returns-in_err-to-clause-err g c =
    let same : rows_of c.extend_from_slice.new.self.items c.self.inside.parts.items ≡ c.args.self.now = rw (c.in_ok-extend_from_slice.ensures.items, ← c.self.view_is) (parts_stay c.self.inside.flat.items c.args.row.now c.self.inside.parts.items c.self.invariant) in
    search (rules, same)

pub returns-in_err-push-clause-err : goal.returns-in_err-push-clause-err
returns-in_err-push-clause-err g c =
    let same : rows_of c.extend_from_slice.new.self.items c.self.inside.parts.items ≡ c.args.self.now = rw (c.in_ok-extend_from_slice.ensures.items, ← c.self.view_is) (parts_stay c.self.inside.flat.items c.args.row.now c.self.inside.parts.items c.self.invariant) in
    search (rules, same)
