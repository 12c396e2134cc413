use Rattle.std.proofs.Common.{◌≡◌, ◌||◌, Bool, true, false, not, refl, sym, ap, ◌∙◌, length, add-one, rules}
use Rattle.std.proofs.lemmas.Bool.{false≢true}
use Rattle.odb_doc.specs.batch.Records.{record_of}
use Rattle.odb_doc.specs.batch.Batches.{records}
use Rattle.odb_check.specs.Tables.{unit_among}
use Rattle.odb_check.proofs.TableLemmas.{apart_more, tables_more}
use Rattle.odb_check.proofs.tables.FirstTables.add.Goals as goal

pub returns-clause-tables : goal.returns-clause-tables
returns-clause-tables c =
    let old = c.args.self.now in
    let request = record_of c.request-request.result.now in
    let next : c.len-next.result ≡ length old.starts.items = search rules in
    let among : c.unit_in-unit.result ≡ unit_among old.groups request.group (length old.starts.items) =
    c.unit_in-unit.ensures ∙ ap (unit_among old.groups request.group) next in
    rw add-one (tables_more (records old.batch.now) c.args.i request old.ids c.note.new.self old.groups c.note_group.new.groups
    old.units.items old.starts.items c.push.new.self.items c.note_start.new.starts.items c.unit_in-unit.result
    c.request-request.ensures.value c.request-request.ensures.well_formed.names c.requires.before among c.in_ok-is_new.ensures.texts c.in_ok-note_group.ensures.texts c.in_ok-note_group.ensures.len c.in_ok-note_start.ensures c.in_ok-push.ensures.items)

neither : (a b : Bool) → (a || not b) ≡ false → (a ≡ false) × (b ≡ true)
neither true b e = absurd (false≢true (sym e))
neither false true e = (refl, refl)
neither false false e = absurd (false≢true (sym e))

pub returns-clause-apart : goal.returns-clause-apart
returns-clause-apart c = λ none.
    let old = c.args.self.now in
    let (before, is_new) = neither old.has_repeated_id c.in_ok-is_new.is_new none in
    rw add-one (apart_more (records old.batch.now) c.args.i (record_of c.request-request.result.now) old.ids c.request-request.ensures.value c.requires.before.ids_are (c.in_ok-is_new.ensures.new is_new) (c.requires.apart before))
