use Rattle.std.proofs.Common.{◌≡◌, rules, true}
use Rattle.odb_engine.specs.Located.{LocatesDocuments}
use Rattle.odb_testing.proofs.ReadingLemmas.{one_of}
use Rattle.odb_tests_tasks.proofs.laws.located.located_twice.Goals as goal

pub returns : goal.returns
returns c =
    let task = c.args.task in
    let names = c.args.names in
    let batch = c.args.batch.now in
    let second = c.args.second.now in
    let are : c.are_json.result ≡ true = search rules in
    let json = c.are_json.ensures.batch are in
    let one = c.one_text.ensures.located task c.args.form names.batch.now batch names.second.now second json.0 json.1 (c.are_json.ensures.second are) in
    one_of (λ it. it.0) (λ it. it.1.items) (LocatesDocuments task names.batch.now batch names.second.now second c.args.form) one c.located.result c.located-2.result c.located.ensures c.located-2.ensures
