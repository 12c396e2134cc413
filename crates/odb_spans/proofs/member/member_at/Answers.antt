use Rattle.std.proofs.Common.{refl, arith}
use Rattle.std.proofs.lemmas.Str.{IsUtf8-between}
use Rattle.odb_spans.proofs.CutLemmas.{cut-value}
use Rattle.odb_spans.proofs.PartLemmas.{name-part}
use Rattle.odb_spans.proofs.member.member_at.Goals as goal

pub returns : goal.returns
returns c =
    let text = c.args.document.now in
    let end = c.value_end-end in
    let value = c.past_separator-value in
    record {
      starts = refl;
      some = end.ensures.some c.requires.within;
      order = value.ensures.after;
      within = value.ensures.within;
      name = λ k ts faces. (name-part text c.args.at end.result k ts c.requires.within c.requires.solid end.ensures.extent faces).alone;
      value = λ k t ts good faces. value.ensures.colon t ts good (name-part text c.args.at end.result k _ c.requires.within c.requires.solid end.ensures.extent faces).follow;
      solid = value.ensures.solid;
      utf8 = λ utf8 from. IsUtf8-between text c.args.at end.result utf8 (omega (arith, end.ensures.some c.requires.within)) from (end.ensures.boundary utf8);
      boundary = λ utf8. value.ensures.boundary utf8 (end.ensures.boundary utf8);
      cut = λ from. value.ensures.cut (cut-value text c.args.at end.result end.ensures.extent from);
      clear = λ k t ts good faces from. value.ensures.clear t ts good (name-part text c.args.at end.result k _ c.requires.within c.requires.solid end.ensures.extent faces).follow (cut-value text c.args.at end.result end.ensures.extent from);
    }
