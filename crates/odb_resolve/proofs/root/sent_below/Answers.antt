use Rattle.std.proofs.Common.{◌<◌, option_map, sym, ap, ◌∙◌}
use Rattle.std.proofs.lemmas.Str.Ascii.{IsAscii-from_all, All-from_ascii}
use Rattle.percent_encoding.specs.Percent.{percent_decode}
use Rattle.odb_resolve.proofs.FolderLemmas.{folder_passes}
use Rattle.odb_resolve.proofs.root.sent_below.Goals as goal

pub sent_with-requires : goal.sent_with-requires
sent_with-requires c =
    let path = c.args.path.now in
    let found = sym c.after_folder.ensures ∙ ap (λ found. option_map (λ more. more.now) found) c.in-Some.is in
    IsAscii-from_all _ (folder_passes (λ b. b < 128) (percent_decode c.read.result.path.now) path c.in-Some.more.now (All-from_ascii path c.requires) found)
