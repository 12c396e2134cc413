-- The first fault of a batch document in the one order over its rules is the least fault of the cascade.
use Rattle.std.proofs.Common.{◌≡◌, ◌≢◌, ◌<◌, ◌≤◌, inl, inr, ℕ, List, Some, option_map, refl, sym, subst, arith}
use Rattle.serde_json.specs.Data.{Data}
use Rattle.odb_doc.specs.declared.fault.DocFault.{DocFault}
use Rattle.odb_doc.specs.declared.fault.DocFault.TheVariants as doc
use Rattle.odb_doc.specs.declared.fault.DocumentRule.{DocumentRule}
use Rattle.odb_doc.specs.declared.fault.DocumentRule.TheVariants as document
use Rattle.odb_doc.specs.declared.fault.Place.TheVariants.{Batch}
use Rattle.odb_doc.specs.declared.fault.RequestRule.{RequestRule}
use Rattle.odb_doc.specs.Documents.{IsDocument, RefusesDocument}
use Rattle.odb_doc.specs.Faults.{document_number, document_row, request_number}
use Rattle.odb_doc.specs.LeastRules.{BreaksIn, IsFirstByPhase}
use Rattle.odb_doc.specs.Refusals.{Printed}
use Rattle.odb_doc.specs.batch.LeastFault.{BreaksRequestAt, IsBatchObject, IsLeastFault, IsWellShaped}
use Rattle.odb_doc.specs.batch.Records.{IsBatchOf, Record}
use Rattle.odb_doc.specs.batch.Shapes.{BreaksDocument, elements}
use Rattle.odb_check.specs.FaultTable.{CheckFault, check_row}
use Rattle.odb_doc.specs.declared.rule_fault.RuleFault.TheVariants as check
use Rattle.odb_check.specs.declared.fault.NameRule.{NameRule}
use Rattle.odb_check.specs.FaultTable as table
use Rattle.odb_check.specs.LeastNameFault.{RefusesNames}
use Rattle.odb_check.specs.NameFaults.{IsBrokenAt}
use Rattle.odb_check.proofs.WalkLemmas.{two_phases}
use Rattle.odb_engine.specs.Cascade.{IsLeast, IsLeastOfBatch, at_place}
use Rattle.odb_engine.specs.FirstFault.{Breaks, IsFirstFault, PrintsFirst, Rule, Document, Request, Names, order, row}
use Rattle.odb_engine.proofs.MemoryLemmas.{one_value}

abbrev pub phase_of : Rule → ℕ
phase_of rule = (order rule).0

abbrev pub number_of : Rule → ℕ
number_of rule = (order rule).1

-- the rule belongs to the phase, and the bytes break it
abbrev pub BreaksPhase : List ℕ → ℕ → Rule → ℕ → Type 0
BreaksPhase bytes = BreaksIn phase_of (Breaks bytes)

pub later_phase : (rule : NameRule) → 1 < table.phase rule
later_phase rule = elim (two_phases rule) [ inl is ↦ omega (arith, is) | inr is ↦ omega (arith, is) ]

-- what the value of a document breaks
abbrev pub BreaksValue : Data → Rule → ℕ → Type 0
BreaksValue value (Document rule) at = BreaksDocument rule value
BreaksValue value (Request rule) at = BreaksRequestAt (elements value) rule at
BreaksValue value (Names rule) at = (requests : List Record) × IsBatchOf value requests × IsBrokenAt rule requests at

never_refused : (bytes : List ℕ) (value : Data) (rule : DocumentRule) → IsDocument bytes value → ¬ RefusesDocument (doc.Document rule) bytes
never_refused bytes value document.TooLong is long = omega (arith, is.0, long)
never_refused bytes value document.NotJson is refused = refused.1 value is.1
never_refused bytes value document.NotObject is refused = refused
never_refused bytes value document.NoRequests is refused = refused
never_refused bytes value document.UnknownMember is refused = refused
never_refused bytes value document.TooMany is refused = refused

pub value_breaks : (bytes : List ℕ) (value : Data) (rule : Rule) (at : ℕ) → IsDocument bytes value → Breaks bytes rule at → BreaksValue value rule at
value_breaks bytes value (Document rule) at is (here, inl refused) = absurd (never_refused bytes value rule is refused)
value_breaks bytes value (Document rule) at is (here, inr has) = subst (BreaksDocument rule) (one_value bytes has.value value has.document is) has.holds
value_breaks bytes value (Request rule) at is has = subst (λ d. BreaksRequestAt (elements d) rule at) (one_value bytes has.value value has.document is) has.holds
value_breaks bytes value (Names rule) at is has = subst (λ d. BreaksValue d (Names rule) at) (one_value bytes has.value value has.document is) has.holds

-- a value is one batch at most
abbrev pub IsOneBatch : Type 0
IsOneBatch = (value : Data) (batch other : List Record) → IsBatchOf value batch → IsBatchOf value other → batch ≡ other

pub name_broken : IsOneBatch → (value : Data) (batch : List Record) (rule : NameRule) (at : ℕ) → IsBatchOf value batch → BreaksValue value (Names rule) at → IsBrokenAt rule batch at
name_broken one value batch rule at is (other, is_other, broken) = subst (λ rs. IsBrokenAt rule rs at) (one value other batch is_other is) broken

-- ---- from the first fault to the least of the cascade

module _ (bytes : List ℕ) (value : Data) (document : IsDocument bytes value) where
  pub has : (rule : Rule) (at : ℕ) → phase_of rule ≢ 0 → BreaksValue value rule at → Breaks bytes rule at
  has (Document rule) at later broken = absurd (later refl)
  has (Request rule) at later broken = record { value = value; document = document; holds = broken }
  has (Names rule) at later broken = record { value = value; document = document; holds = broken }

  pub has_whole : (rule : DocumentRule) → BreaksDocument rule value → Breaks bytes (Document rule) 0
  has_whole rule broken = (refl, inr (record { value = value; document = document; holds = broken }))

  least_whole : (rule : DocumentRule) (at : ℕ) → at ≡ 0 → IsFirstFault bytes (Document rule) at → BreaksDocument rule value → IsLeastFault (doc.Document rule) value
  least_whole rule at here first broken = record {
    broken = broken;
    least = λ other less bad. first.first.here.least (Document other) less (refl, subst (Breaks bytes (Document other)) (sym here) (has_whole other bad));
  }

  no_whole : (rule : Rule) (at : ℕ) → 0 < phase_of rule → IsFirstFault bytes rule at → IsBatchObject value
  no_whole rule at later first other bad = first.earlier 0 later (Document other) 0 (refl, has_whole other bad)

  least_request : (rule : RequestRule) (at : ℕ) → IsFirstFault bytes (Request rule) at → BreaksRequestAt (elements value) rule at → IsLeastFault (doc.Request at rule) value
  least_request rule at first broken = (
    no_whole (Request rule) at (omega arith) first,
    record {
      here = record { broken = broken; least = λ other less bad. first.first.here.least (Request other) less (refl, has (Request other) at (omega arith) bad) };
      before = λ other i less bad. first.first.before (Request other) i less (refl, has (Request other) i (omega arith) bad);
    },
  )

  well_shaped : (rule : NameRule) (at : ℕ) → IsFirstFault bytes (Names rule) at → IsWellShaped value
  well_shaped rule at first =
      let later : 1 < table.phase rule = later_phase rule in
      (no_whole (Names rule) at (omega (arith, later)) first, λ other i bad. first.earlier 1 later (Request other) i (refl, has (Request other) i (omega arith) bad))

  least_name : (rule : NameRule) (at : ℕ) (batch : List Record) → IsBatchOf value batch → IsFirstFault bytes (Names rule) at → IsBrokenAt rule batch at → RefusesNames (check.Broken at rule) batch
  least_name rule at batch is first broken = record {
    earlier = λ ph less other i bad. first.earlier ph less (Names other) i (bad.0, named other i bad.1);
    first = record {
      here = record { broken = (refl, broken); least = λ other less bad. first.first.here.least (Names other) less (bad.0, named other at bad.1) };
      before = λ other i less bad. first.first.before (Names other) i less (bad.0, named other i bad.1);
    };
  }
    where
      named : (other : NameRule) (i : ℕ) → IsBrokenAt other batch i → Breaks bytes (Names other) i
      named other i bad = record { value = value; document = document; holds = (batch, is, bad) }

least_from : (bytes : List ℕ) (refusal : Printed) (rule : Rule) (at : ℕ) → IsFirstFault bytes rule at → Breaks bytes rule at → row rule at ≡ Some refusal → IsLeast bytes refusal
least_from bytes refusal (Document rule) at first (here, inl refused) is = inl (record { fault = doc.Document rule; refuses = refused; is = is })
least_from bytes refusal (Document rule) at first (here, inr has) is =
    inr (record { value = has.value; document = has.document; holds = inl (record { fault = doc.Document rule; refuses = least_whole bytes has.value has.document rule at here first has.holds; is = is }) })
least_from bytes refusal (Request rule) at first has is =
    inr (record { value = has.value; document = has.document; holds = inl (record { fault = doc.Request at rule; refuses = least_request bytes has.value has.document rule at first has.holds; is = is }) })
least_from bytes refusal (Names rule) at first has is =
    let (batch, is_batch, broken) = has.holds in
    inr (record {
      value = has.value;
      document = has.document;
      holds = inr (record {
        fault = check.Broken at rule;
        refuses = record {
          batch = batch;
          shaped = well_shaped bytes has.value has.document rule at first;
          is_batch = is_batch;
          holds = least_name bytes has.value has.document rule at batch is_batch first broken;
        };
        is = is;
      });
    })

pub first-least : (bytes : List ℕ) (refusal : Printed) → PrintsFirst bytes refusal → IsLeast bytes refusal
first-least bytes refusal found = least_from bytes refusal found.rule found.at found.first found.first.first.here.broken.1 found.is

-- ---- from the least fault of the cascade to the first

first_whole : (bytes : List ℕ) (rule : DocumentRule) → Breaks bytes (Document rule) 0 → ((other : DocumentRule) → document_number other < document_number rule → ¬ Breaks bytes (Document other) 0) → IsFirstFault bytes (Document rule) 0
first_whole bytes rule broken least = record {
  earlier = λ ph less other i bad. omega (arith, less);
  first = record { here = record { broken = (refl, broken); least = λ other less bad. below other less bad }; before = λ other i less bad. omega (arith, less) };
}
  where
    below : (other : Rule) → number_of other < document_number rule → ¬ BreaksPhase bytes 0 other 0
    below (Document other) less (is, bad) = least other less bad
    below (Request other) less (is, bad) = omega (arith, is)
    below (Names other) less (is, bad) = omega (arith, is, later_phase other)

from_one : (rule : DocumentRule) → 1 ≤ document_number rule
from_one rule = search (arith)

first_refused : (bytes : List ℕ) (refusal : Printed) (fault : DocFault) → RefusesDocument fault bytes → option_map (at_place Batch) (document_row fault) ≡ Some refusal → PrintsFirst bytes refusal
first_refused bytes refusal (doc.Document document.TooLong) refused is = record {
  rule = Document document.TooLong;
  at = 0;
  first = first_whole bytes document.TooLong (refl, inl refused) (λ other less bad. omega (arith, less, from_one other));
  is = is;
}
first_refused bytes refusal (doc.Document document.NotJson) refused is = record { rule = Document document.NotJson; at = 0; first = first_whole bytes document.NotJson (refl, inl refused) below; is = is }
  where
    below : (other : DocumentRule) → document_number other < 2 → ¬ Breaks bytes (Document other) 0
    below document.TooLong less (here, inl long) = omega (arith, long, refused.0)
    below document.TooLong less (here, inr has) = has.holds
    below other less bad = omega (arith, less)
first_refused bytes refusal (doc.Document document.NotObject) refused is = absurd refused
first_refused bytes refusal (doc.Document document.NoRequests) refused is = absurd refused
first_refused bytes refusal (doc.Document document.UnknownMember) refused is = absurd refused
first_refused bytes refusal (doc.Document document.TooMany) refused is = absurd refused
first_refused bytes refusal (doc.Request at rule) refused is = absurd refused
first_refused bytes refusal doc.OutOfMemory refused is = absurd (cc (is))

module _ (one : IsOneBatch) (bytes : List ℕ) (value : Data) (document : IsDocument bytes value) where
  -- what is first of the value is first of the bytes
  first_of_value : (rule : Rule) (at : ℕ) → IsFirstByPhase phase_of number_of (BreaksValue value) at rule → Breaks bytes rule at → IsFirstFault bytes rule at
  first_of_value rule at first broken = record {
    earlier = λ ph less other i bad. first.earlier ph less other i (bad.0, value_breaks bytes value other i document bad.1);
    first = record {
      here = record { broken = (refl, broken); least = λ other less bad. first.first.here.least other less (bad.0, value_breaks bytes value other at document bad.1) };
      before = λ other i less bad. first.first.before other i less (bad.0, value_breaks bytes value other i document bad.1);
    };
  }

  first_shape : (refusal : Printed) (fault : DocFault) → IsLeastFault fault value → document_row fault ≡ Some refusal → PrintsFirst bytes refusal
  first_shape refusal (doc.Document rule) least is = record {
    rule = Document rule;
    at = 0;
    first = first_whole bytes rule (has_whole bytes value document rule least.broken) (λ other less bad. least.least other less (value_breaks bytes value (Document other) 0 document bad));
    is = is;
  }
  first_shape refusal (doc.Request at rule) (whole, first) is = record {
    rule = Request rule;
    at = at;
    first = first_of_value (Request rule) at (record {
      earlier = λ ph less other i bad. earlier other i (omega (arith, less, bad.0)) bad.1;
      first = record { here = record { broken = (refl, first.here.broken); least = λ other less bad. below other less bad.0 bad.1 }; before = λ other i less bad. before other i less bad.0 bad.1 };
    }) (has bytes value document (Request rule) at (omega arith) first.here.broken);
    is = is;
  }
    where
      earlier : (other : Rule) (i : ℕ) → phase_of other ≡ 0 → ¬ BreaksValue value other i
      earlier (Document other) i here bad = whole other bad
      earlier (Request other) i here bad = omega (arith, here)
      earlier (Names other) i here bad = omega (arith, here, later_phase other)

      below : (other : Rule) → number_of other < request_number rule → phase_of other ≡ 1 → ¬ BreaksValue value other at
      below (Document other) less here bad = omega (arith, here)
      below (Request other) less here bad = first.here.least other less bad
      below (Names other) less here bad = omega (arith, here, later_phase other)

      before : (other : Rule) (i : ℕ) → i < at → phase_of other ≡ 1 → ¬ BreaksValue value other i
      before (Document other) i less here bad = omega (arith, here)
      before (Request other) i less here bad = first.before other i less bad
      before (Names other) i less here bad = omega (arith, here, later_phase other)
  first_shape refusal doc.OutOfMemory least is = absurd (cc (is))

  first_name : (refusal : Printed) (batch : List Record) (fault : CheckFault) → IsWellShaped value → IsBatchOf value batch → RefusesNames fault batch → check_row fault ≡ Some refusal → PrintsFirst bytes refusal
  first_name refusal batch (check.Broken at rule) shaped is_batch first is = record {
    rule = Names rule;
    at = at;
    first = first_of_value (Names rule) at (record {
      earlier = λ ph less other i bad. earlier other i ph less bad.0 bad.1;
      first = record { here = record { broken = (refl, broken); least = λ other less bad. below other less bad.0 bad.1 }; before = λ other i less bad. before other i less bad.0 bad.1 };
    }) (has bytes value document (Names rule) at (λ none. omega (arith, none, later_phase rule)) broken);
    is = is;
  }
    where
      broken : BreaksValue value (Names rule) at
      broken = (batch, is_batch, first.first.here.broken.1)

      earlier : (other : Rule) (i ph : ℕ) → ph < table.phase rule → phase_of other ≡ ph → ¬ BreaksValue value other i
      earlier (Document other) i ph less here bad = shaped.0 other bad
      earlier (Request other) i ph less here bad = shaped.1 other i bad
      earlier (Names other) i ph less here bad = first.earlier ph less other i (here, name_broken one value batch other i is_batch bad)

      below : (other : Rule) → number_of other < table.number rule → phase_of other ≡ table.phase rule → ¬ BreaksValue value other at
      below (Document other) less here bad = shaped.0 other bad
      below (Request other) less here bad = shaped.1 other at bad
      below (Names other) less here bad = first.first.here.least other less (here, name_broken one value batch other at is_batch bad)

      before : (other : Rule) (i : ℕ) → i < at → phase_of other ≡ table.phase rule → ¬ BreaksValue value other i
      before (Document other) i less here bad = shaped.0 other bad
      before (Request other) i less here bad = shaped.1 other i bad
      before (Names other) i less here bad = first.first.before other i less (here, name_broken one value batch other i is_batch bad)
  first_name refusal batch check.OutOfMemory shaped is_batch first is = absurd (cc (is))

  first_in_value : (refusal : Printed) → IsLeastOfBatch value refusal → PrintsFirst bytes refusal
  first_in_value refusal (inl found) = first_shape refusal found.fault found.refuses found.is
  first_in_value refusal (inr found) = first_name refusal found.refuses.batch found.fault found.refuses.shaped found.refuses.is_batch found.refuses.holds found.is

pub least-first : IsOneBatch → (bytes : List ℕ) (refusal : Printed) → IsLeast bytes refusal → PrintsFirst bytes refusal
least-first one bytes refusal (inl refused) = first_refused bytes refusal refused.fault refused.refuses refused.is
least-first one bytes refusal (inr has) = first_in_value one bytes has.value has.document refusal has.holds
