use Rattle.std.proofs.Common.{subst, arith}
use Rattle.odb_spans.specs.Parts.{IsNameIn}
use Rattle.odb_spans.proofs.MemberLemmas.{begin-members, end-members, passed-other, passed-same}
use Rattle.odb_spans.proofs.member.last_member.Goals as goal

pub members-init : goal.members-init
members-init c = record { within = c.requires; bounds = tt; remaining = λ ms ts has. begin-members c.args.name.now c.args.document.now c.args.start ms ts has }

pub returns-in_default : goal.returns-in_default
returns-in_default c = record { bounds = c.members.invariant.bounds; finds = λ ms ts has. end-members c.args.name.now c.args.document.now c.members.at c.members.last ms ts (c.members.invariant.remaining ms ts has) c.in_default.ensures }

pub members-preserved-then-branch : goal.members-preserved-then-branch
members-preserved-then-branch c =
    let text = c.args.document.now in
    let member = c.member_at-member in
    let end = c.value_end-at in
    let named = subst (IsNameIn text member.result.name c.args.name.now) c.if-branch.true c.in_ok-is_named.ensures in
    record {
      within = end.ensures.within;
      bounds = (omega (arith, end.ensures.extent), end.ensures.within);
      remaining = λ ms ts has.
          passed-same c.args.name.now text c.members.at c.in-Some.first end.result member.result c.members.last ms ts (c.members.invariant.remaining ms ts has) c.in-Some.ensures member.ensures end.ensures.extent end.ensures.within end.ensures.boundary named end.ensures.some;
    }

pub members-preserved : goal.members-preserved
members-preserved c =
    let text = c.args.document.now in
    let member = c.member_at-member in
    let end = c.value_end-at in
    let named = subst (IsNameIn text member.result.name c.args.name.now) c.if-branch.false c.in_ok-is_named.ensures in
    record {
      within = end.ensures.within;
      bounds = c.members.invariant.bounds;
      remaining = λ ms ts has.
          passed-other c.args.name.now text c.members.at c.in-Some.first end.result member.result c.members.last ms ts (c.members.invariant.remaining ms ts has) c.in-Some.ensures member.ensures end.ensures.extent end.ensures.within end.ensures.boundary named;
    }
