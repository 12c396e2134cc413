-- The answers to the lines so far, and how they end.
use Rattle.std.proofs.Common.{◌≡◌, ◌≢◌, ◌↔◌, ◌+◌, ℕ, suc, add-zero, arith, Bool, true, false, List, [], ◌∷◌, ◌++◌, All, length, take, Option, Result, Ok, Err, IsTrue, refl, sym, ap, subst, ◌∙◌, append_assoc, append-nil, le_refl}
use Rattle.std.proofs.lemmas.List.{length_push, take_all, take_at}
use Rattle.std.proofs.lemmas.Result.{IfOk-at_ok}
use Rattle.std.proofs.lemmas.List.Elements.{All-nil, All-append, All-cons}
use Rattle.std.specs.Io.KnownBytes.{Consumes, Appends, IsAtEnd, Keeps}
use Rattle.std.proofs.KnownBytes.{Consumes-nil, Consumes-trans, Consumes-kept, Consumes-whole, Appends-nil, Appends-trans, Appends-kept}
use Rattle.std.proofs.lemmas.Bool.{both_ways}
use Rattle.odb_io.specs.Devices.{Writing}
use Rattle.odb_check.specs.Texts.{newline}
use Rattle.odb_engine.specs.declared.ending.Ended.{Ended}
use Rattle.odb_engine.specs.declared.ending.Ended.TheVariants.{Done, Refused}
use Rattle.odb_engine.specs.declared.ending.EngineFault.{EngineFault}
use Rattle.odb_engine.specs.declared.ending.EngineFault.TheVariants as faults
use Rattle.odb_engine.specs.Cascade.{Writes}
use Rattle.odb_engine.specs.Engines.{WritesText, WritesPrefix}
use Rattle.odb_engine.specs.lines.Lines.{lines_of}
use Rattle.odb_engine.specs.lines.Sources.{LineReading, left}
use Rattle.odb_engine.specs.lines.Answers.{AnswersEach, AnswersFrom, AnswersLines, HasAnswered, OfAnyLine, both}
use Rattle.odb_engine.specs.lines.Answers.AnswersFrom.{NoLine, Line}
use Rattle.odb_engine.specs.lines.Steps.{IsOpen, cut, EndsAnswer, Advances}
use Rattle.odb_engine.specs.lines.Steps.Advances.{Holds, Lacks, Answers}
use Rattle.odb_engine.proofs.ByteLemmas.{cut-append, cut-nil, IsDocumentOf-cut}
use Rattle.odb_engine.proofs.LineLemmas.{joined, with_end, last_line, joined-more, lines-joined, ended-joined, take-joined, last_line-some}
use Rattle.odb_io.proofs.WriteLemmas.{AppendsPrefix-append, AppendsPrefix-whole}

pub both-done : (ended : Ended) → both ended Done ≡ ended
both-done Done = refl
both-done Refused = refl

pub both-assoc : (a b c : Ended) → both (both a b) c ≡ both a (both b c)
both-assoc Done b c = refl
both-assoc Refused b c = refl

-- one answer more
answered-after : (P : ℕ → List ℕ → Writes) {number : ℕ} {lines : List (List ℕ)} {ended : Ended} {text : List ℕ} (line answer : List ℕ) (last : Ended) → AnswersFrom P number lines ended text → P (number + length lines) line last answer
    → AnswersFrom P number (lines ++ line ∷ []) (both ended last) (text ++ answer)
answered-after P line answer last (NoLine number) so =
    let here : P number line last answer = subst (λ n. P n line last answer) (add-zero number) so in
    subst (λ e. AnswersFrom P number (line ∷ []) e answer) (both-done last) (subst (AnswersFrom P number (line ∷ []) (both last Done)) (append-nil answer) (Line number line answer [] [] last Done here (NoLine (suc number))))
answered-after P line answer last (Line number one first texts lines ended others here more) so =
    let same : number + length (one ∷ lines) ≡ suc number + length lines = omega arith in
    let all = Line number one first (texts ++ answer) (lines ++ line ∷ []) ended (both others last) here (answered-after P line answer last more (subst (λ n. P n line last answer) same so)) in
    subst (λ e. AnswersFrom P number (one ∷ (lines ++ line ∷ [])) e ((first ++ texts) ++ answer)) (sym (both-assoc ended others last))
    (subst (AnswersFrom P number (one ∷ (lines ++ line ∷ [])) (both ended (both others last))) (sym (append_assoc first texts answer)) all)

pub answered-more : (P : ℕ → List ℕ → Writes) (count : ℕ) (lines : List (List ℕ)) (ended : Ended) (text line answer : List ℕ) (last : Ended) → count ≡ length lines → AnswersEach P lines ended text → P (count + 1) line last answer
    → AnswersEach P (lines ++ line ∷ []) (both ended last) (text ++ answer)
answered-more P count lines ended text line answer last counted before so =
    let same : count + 1 ≡ 1 + length lines = omega arith in
    answered-after P line answer last before (subst (λ n. P n line last answer) same so)

-- What was read and answered so far: so many whole lines, and the beginning of the next one, of which this is held.
pub record IsAnswered (Q : ℕ → List ℕ → Writes) (from now old new : Option (List ℕ)) (count : ℕ) (held : List ℕ) (ended : Ended) : Type 0 where
  pub lines : List (List ℕ)
  pub counted : count ≡ length lines
  pub begun : List ℕ
  pub whole : All IsOpen lines
  pub open' : IsOpen begun
  pub kept : held ≡ cut begun
  pub given : Consumes from now (joined lines ++ begun)
  pub text : List ℕ
  pub so : AnswersEach (OfAnyLine Q) lines ended text
  pub written : Appends old new text

-- what is written of a line is written of what is held of it
pub OfAnyLine-cut : (Q : ℕ → List ℕ → Writes) (number : ℕ) (line text : List ℕ) (ended : Ended) → Q number (cut line) ended text → OfAnyLine Q number line ended text
OfAnyLine-cut Q number line text ended so = (cut line, IsDocumentOf-cut line, so)

module _ (Q : ℕ → List ℕ → Writes) (from old : Option (List ℕ)) where
  pub IsAnswered-none : IsAnswered Q from from old old 0 [] Done
  IsAnswered-none = record {
    lines = [];
    counted = refl;
    begun = [];
    whole = All-nil IsOpen;
    open' = All-nil (λ byte. byte ≢ newline);
    kept = refl;
    given = Consumes-nil from;
    text = [];
    so = NoLine 1;
    written = Appends-nil old;
  }

  -- nothing was taken, and nothing written
  pub IsAnswered-kept : (now later new next : Option (List ℕ)) (count : ℕ) (held : List ℕ) (ended : Ended) → IsAnswered Q from now old new count held ended → Keeps now later → Keeps new next
      → IsAnswered Q from later old next count held ended
  IsAnswered-kept now later new next count held ended is same still = record {
    lines = is.lines;
    counted = is.counted;
    begun = is.begun;
    whole = is.whole;
    open' = is.open';
    kept = is.kept;
    given = Consumes-kept from now later _ is.given same;
    text = is.text;
    so = is.so;
    written = Appends-kept old new next is.text is.written still;
  }

  -- a piece of a line was taken
  pub IsAnswered-held : (now later new : Option (List ℕ)) (count : ℕ) (held piece : List ℕ) (ended : Ended) → IsAnswered Q from now old new count held ended → IsOpen piece → Consumes now later piece
      → IsAnswered Q from later old new count (cut (held ++ piece)) ended
  IsAnswered-held now later new count held piece ended is open' taken = record {
    lines = is.lines;
    counted = is.counted;
    begun = is.begun ++ piece;
    whole = is.whole;
    open' = All-append (λ byte. byte ≢ newline) is.begun piece is.open' open';
    kept = ap (λ l. cut (l ++ piece)) is.kept ∙ cut-append is.begun piece;
    given = subst (Consumes from later) (append_assoc (joined is.lines) is.begun piece) (Consumes-trans from now later _ piece is.given taken);
    text = is.text;
    so = is.so;
    written = is.written;
  }

  -- the line that a piece ends was answered
  pub IsAnswered-line : (now later new next : Option (List ℕ)) (count : ℕ) (held piece answer : List ℕ) (ended last : Ended) → IsAnswered Q from now old new count held ended → IsOpen piece
      → Consumes now later (piece ++ newline ∷ []) → Appends new next answer → Q (count + 1) (cut (held ++ piece)) last answer → IsAnswered Q from later old next (count + 1) [] (both ended last)
  IsAnswered-line now later new next count held piece answer ended last is open' taken writes so =
      let line = is.begun ++ piece in
      let lines = is.lines ++ line ∷ [] in
      let same : (joined is.lines ++ is.begun) ++ with_end piece ≡ joined lines ++ [] =
      append_assoc (joined is.lines) is.begun (with_end piece) ∙ ap (λ l. joined is.lines ++ l) (sym (append_assoc is.begun piece (newline ∷ [])))
      ∙ sym (joined-more is.lines line) ∙ sym (append-nil (joined lines)) in
      record {
        lines = lines;
        counted = ap (λ n. n + 1) is.counted ∙ sym (length_push is.lines line);
        begun = [];
        whole = All-append IsOpen is.lines (line ∷ []) is.whole (All-cons IsOpen line [] (All-append (λ byte. byte ≢ newline) is.begun piece is.open' open') (All-nil IsOpen));
        open' = All-nil (λ byte. byte ≢ newline);
        kept = refl;
        given = subst (Consumes from later) same (Consumes-trans from now later _ (with_end piece) is.given taken);
        text = is.text ++ answer;
        so = answered-more (OfAnyLine Q) count is.lines ended is.text line answer last is.counted is.so (OfAnyLine-cut Q (count + 1) line answer last (subst (λ l. Q (count + 1) l last answer) (ap (λ l. cut (l ++ piece)) is.kept ∙ cut-append is.begun piece) so));
        written = Appends-trans old new next is.text answer is.written writes;
      }

-- two faults are not one
pub read≢write : {T : Type 0} (r : Result T EngineFault) → r ≡ Err faults.Read → r ≡ Err faults.Write → ⊥
read≢write r a b = cc

pub read≢memory : {T : Type 0} (r : Result T EngineFault) → r ≡ Err faults.Read → r ≡ Err faults.OutOfMemory → ⊥
read≢memory r a b = cc

pub write≢memory : {T : Type 0} (r : Result T EngineFault) → r ≡ Err faults.Write → r ≡ Err faults.OutOfMemory → ⊥
write≢memory r a b = cc

pub ok≢err : {T : Type 0} (r : Result T EngineFault) (x : T) (e : EngineFault) → r ≡ Ok x → r ≡ Err e → ⊥
ok≢err r x e a b = cc

pub not_failed : (b : Bool) → (IsTrue b → ⊥) → b ≡ false
not_failed true never = absurd (never refl)
not_failed false never = refl

module _ {R W : Type 0} (remaining : R → Option (List ℕ)) (contents : W → Option (List ℕ)) (Q : ℕ → List ℕ → Writes) (before : LineReading R) (old : Writing W) where
  -- what was read and answered before
  abbrev pub So : LineReading R → Writing W → ℕ → List ℕ → Ended → Type 0
  So after new count held ended = IsAnswered Q (left remaining before) (left remaining after) (contents old.writer) (contents new.writer) count held ended

  abbrev pub EndsAs : LineReading R → Writing W → Result Ended EngineFault → Type 0
  EndsAs after new result = AnswersLines remaining contents (OfAnyLine Q) before after old new result

  pub ends-read : (after : LineReading R) (new : Writing W) (count : ℕ) (held : List ℕ) (ended : Ended) → So after new count held ended → IsTrue after.failed → (IsTrue new.failed → ⊥) → EndsAs after new (Err faults.Read)
  ends-read after new count held ended is failed fine = record {
    bytes = joined is.lines ++ is.begun;
    given = is.given;
    all = tt;
    ended = tt;
    read = (λ _. failed, λ _. refl);
    unread = λ _. (ended, record { text = is.text; so = subst (λ lines. AnswersEach (OfAnyLine Q) lines ended is.text) (sym (ended-joined is.lines is.begun is.whole is.open')) is.so; written = is.written });
    write = (λ e. absurd (read≢write _ refl e), λ t. absurd (fine t));
    part = λ e. absurd (read≢write _ refl e);
    memory = λ e. absurd (read≢memory _ refl e);
  }

  pub ends-write : (after : LineReading R) (new : Writing W) (bytes : List ℕ) (n : ℕ) → Consumes (left remaining before) (left remaining after) bytes
      → WritesPrefix (contents old.writer) (contents new.writer) (AnswersEach (OfAnyLine Q) (take n (lines_of bytes))) → (IsTrue after.failed → ⊥) → IsTrue new.failed → EndsAs after new (Err faults.Write)
  ends-write after new bytes n given part fine failed = record {
    bytes = bytes;
    given = given;
    all = tt;
    ended = tt;
    read = (λ e. absurd (read≢write _ e refl), λ t. absurd (fine t));
    unread = λ e. absurd (read≢write _ e refl);
    write = (λ _. failed, λ _. refl);
    part = λ _. (n, part);
    memory = λ e. absurd (write≢memory _ refl e);
  }

  pub ends-memory : (after : LineReading R) (new : Writing W) (bytes : List ℕ) (n : ℕ) → Consumes (left remaining before) (left remaining after) bytes
      → HasAnswered (contents old.writer) (contents new.writer) (OfAnyLine Q) (take n (lines_of bytes))
      → (IsTrue after.failed → ⊥) → (IsTrue new.failed → ⊥) → EndsAs after new (Err faults.OutOfMemory)
  ends-memory after new bytes n given answered fine sound = record {
    bytes = bytes;
    given = given;
    all = tt;
    ended = tt;
    read = (λ e. absurd (read≢memory _ e refl), λ t. absurd (fine t));
    unread = λ e. absurd (read≢memory _ e refl);
    write = (λ e. absurd (write≢memory _ e refl), λ t. absurd (sound t));
    part = λ e. absurd (write≢memory _ e refl);
    memory = λ _. (n, answered);
  }

  -- the whole input was read
  pub ends-done : (mid after : LineReading R) (new : Writing W) (bytes text : List ℕ) (ended : Ended) → Consumes (left remaining before) (left remaining mid) bytes → IsAtEnd (left remaining mid)
      → Keeps (left remaining mid) (left remaining after) → Appends (contents old.writer) (contents new.writer) text → AnswersEach (OfAnyLine Q) (lines_of bytes) ended text
      → (IsTrue after.failed → ⊥) → (IsTrue new.failed → ⊥) → EndsAs after new (Ok ended)
  ends-done mid after new bytes text ended given end same written so fine sound = record {
    bytes = bytes;
    given = Consumes-kept (left remaining before) (left remaining mid) (left remaining after) bytes given same;
    all = Consumes-whole (left remaining before) (left remaining mid) bytes (λ known. bytes ≡ known) given end refl;
    ended = record { text = text; so = so; written = written };
    read = (λ e. absurd (ok≢err _ ended faults.Read refl e), λ t. absurd (fine t));
    unread = λ e. absurd (ok≢err _ ended faults.Read refl e);
    write = (λ e. absurd (ok≢err _ ended faults.Write refl e), λ t. absurd (sound t));
    part = λ e. absurd (ok≢err _ ended faults.Write refl e);
    memory = λ e. absurd (ok≢err _ ended faults.OutOfMemory refl e);
  }

  -- the answers to the lines that came before an open one
  pub answered-before : (after : LineReading R) (new : Writing W) (count : ℕ) (held rest : List ℕ) (ended : Ended) → (is : So after new count held ended) → IsOpen rest
      → AnswersEach (OfAnyLine Q) (take (length is.lines) (lines_of (joined is.lines ++ rest))) ended is.text
  answered-before after new count held rest ended is open' =
      subst (λ lines. AnswersEach (OfAnyLine Q) lines ended is.text) (sym (take-joined is.lines rest is.whole open')) is.so

  -- a look at the input failed
  pub ends-look : (mid after : LineReading R) (out new : Writing W) (count : ℕ) (held : List ℕ) (ended : Ended) (r : Result Bool EngineFault) (e : EngineFault) → So mid out count held ended
      → Keeps (left remaining mid) (left remaining after) → Keeps (contents out.writer) (contents new.writer) → ((r ≡ Err faults.Read) ↔ IsTrue after.failed)
      → ((r ≡ Err faults.Write) ↔ IsTrue new.failed) → (r ≡ Err faults.OutOfMemory → ⊥) → r ≡ Err e → EndsAs after new (Err e)
  ends-look mid after out new count held ended r faults.Read so same still read write none was =
      ends-read after new count held ended (IsAnswered-kept Q _ _ _ _ _ _ count held ended so same still) (read.0 was) (λ t. read≢write r was (write.1 t))
  ends-look mid after out new count held ended r faults.Write so same still read write none was =
      let is = IsAnswered-kept Q _ _ _ _ _ _ count held ended so same still in
      ends-write after new (joined is.lines ++ is.begun) (length is.lines) is.given
      (record { ended = ended; text = is.text; so = answered-before after new count held is.begun ended is is.open'; written = AppendsPrefix-whole _ _ is.text is.written })
      (λ t. read≢write r (read.1 t) was) (write.0 was)
  ends-look mid after out new count held ended r faults.OutOfMemory so same still read write none was = absurd (none was)

  -- a step went well
  pub advanced : (mid after : LineReading R) (out new : Writing W) (count counted : ℕ) (held kept : List ℕ) (ended last : Ended) (r : Result Ended EngineFault) → So mid out count held ended → out.failed ≡ false
      → Advances contents Q (left remaining mid) (left remaining after) count counted held kept out new r → r ≡ Ok last → (new.failed ≡ false) × So after new counted kept (both ended last)
  advanced mid after out new count counted held kept ended last r so fine (Holds piece open' taken same still keeps is) was =
      let done : last ≡ Done = cc in (
        ap (λ (o : Writing W). o.failed) same ∙ fine,
        subst (So after new counted kept) (sym (ap (both ended) done ∙ both-done ended))
            (subst (λ (n : ℕ). So after new n kept ended) (sym still)
            (subst (λ h. So after new count h ended) (sym keeps) (subst (λ o. So after o count (cut (held ++ piece)) ended) (sym same) (IsAnswered-held Q _ _ _ _ _ count held piece ended so open' taken)))),
      )
  advanced mid after out new count counted held kept ended last r so fine (Lacks piece open' taken same is) was = absurd (ok≢err r last faults.OutOfMemory was is)
  advanced mid after out new count counted held kept ended last r so fine (Answers piece open' taken more ends emptied) was =
      let wrote = IfOk-at_ok (λ ended. WritesText (contents out.writer) (contents new.writer) (Q (count + 1) (cut (held ++ piece)) ended)) was ends.ends.ended in
      let empty = IfOk-at_ok (λ _. kept ≡ []) was emptied in (
        not_failed new.failed (λ t. ok≢err r last faults.Write was (ends.ends.write.1 t)),
        subst (λ (n : ℕ). So after new n kept (both ended last)) (sym more)
            (subst (λ h. So after new (count + 1) h (both ended last)) (sym empty) (IsAnswered-line Q _ _ _ _ _ _ count held piece wrote.text ended last so open' taken wrote.written wrote.so)),
      )

  -- the line is read, and a prefix of its answer is written after the answers to the ones before it
  pub part_more : (mid : LineReading R) (out new : Writing W) (count : ℕ) (held : List ℕ) (ended : Ended) (line bytes : List ℕ) → (is : So mid out count held ended) → lines_of bytes ≡ is.lines ++ line ∷ []
      → WritesPrefix (contents out.writer) (contents new.writer) (Q (count + 1) (cut line)) → WritesPrefix (contents old.writer) (contents new.writer) (AnswersEach (OfAnyLine Q) (take (length (lines_of bytes)) (lines_of bytes)))
  part_more mid out new count held ended line bytes is lines part =
      let whole : take (length (lines_of bytes)) (lines_of bytes) ≡ is.lines ++ line ∷ [] = take_all (length (lines_of bytes)) (lines_of bytes) (le_refl _) ∙ lines in
      record {
        ended = both ended part.ended;
        text = is.text ++ part.text;
        so = subst (λ l. AnswersEach (OfAnyLine Q) l (both ended part.ended) (is.text ++ part.text)) (sym whole) (answered-more (OfAnyLine Q) count is.lines ended is.text line part.text part.ended is.counted is.so (OfAnyLine-cut Q (count + 1) line part.text part.ended part.so));
        written = AppendsPrefix-append _ _ _ is.text part.text is.written part.written;
      }

  -- the line is read, and nothing is written of it
  pub none_more : (mid : LineReading R) (out new : Writing W) (count : ℕ) (held : List ℕ) (ended : Ended) (line bytes : List ℕ) → (is : So mid out count held ended) → lines_of bytes ≡ is.lines ++ line ∷ [] → new ≡ out
      → HasAnswered (contents old.writer) (contents new.writer) (OfAnyLine Q) (take (length is.lines) (lines_of bytes))
  none_more mid out new count held ended line bytes is lines same =
      let first : take (length is.lines) (lines_of bytes) ≡ is.lines = ap (take (length is.lines)) lines ∙ take_at is.lines (line ∷ []) (length is.lines) refl in
      (ended, record { text = is.text; so = subst (λ l. AnswersEach (OfAnyLine Q) l ended is.text) (sym first) is.so; written = subst (λ (o : Writing W). Appends (contents old.writer) (contents o.writer) is.text) (sym same) is.written })

  -- the answer to a line failed: the line is read, and the ones before it are answered
  pub ends-answer : (mid after : LineReading R) (out new : Writing W) (count : ℕ) (held : List ℕ) (ended : Ended) (r : Result Ended EngineFault) (e : EngineFault) (line bytes : List ℕ) → (is : So mid out count held ended)
      → Consumes (left remaining before) (left remaining after) bytes → lines_of bytes ≡ is.lines ++ line ∷ [] → (IsTrue after.failed → ⊥)
      → EndsAnswer contents (Q (count + 1) (cut line)) out new r → r ≡ Err e → EndsAs after new (Err e)
  ends-answer mid after out new count held ended r faults.Read line bytes is given lines fine ends was = absurd (ends.ends.read.0 was)
  ends-answer mid after out new count held ended r faults.Write line bytes is given lines fine ends was =
      ends-write after new bytes (length (lines_of bytes)) given (part_more mid out new count held ended line bytes is lines (ends.ends.part was)) fine (ends.ends.write.0 was)
  ends-answer mid after out new count held ended r faults.OutOfMemory line bytes is given lines fine ends was =
      ends-memory after new bytes (length is.lines) given (none_more mid out new count held ended line bytes is lines (ends.memory was)) fine (λ t. write≢memory r (ends.ends.write.1 t) was)

  -- a step failed
  pub ends-advance : (mid after : LineReading R) (out new : Writing W) (count counted : ℕ) (held kept : List ℕ) (ended : Ended) (r : Result Ended EngineFault) (e : EngineFault) → So mid out count held ended → (IsTrue after.failed → ⊥)
      → out.failed ≡ false → Advances contents Q (left remaining mid) (left remaining after) count counted held kept out new r → r ≡ Err e → EndsAs after new (Err e)
  ends-advance mid after out new count counted held kept ended r e so fine sound (Holds piece open' taken same still keeps is) was = absurd (ok≢err r Done e is was)
  ends-advance mid after out new count counted held kept ended r e so fine sound (Lacks piece open' taken same is) was =
      let here = IsAnswered-held Q _ _ _ _ _ count held piece ended so open' taken in
      let memory : faults.OutOfMemory ≡ e = cc in
      subst (λ f. EndsAs after new (Err f)) memory
      (ends-memory after new (joined here.lines ++ here.begun) (length here.lines) here.given
      (ended, record { text = here.text; so = answered-before after out count (cut (held ++ piece)) here.begun ended here here.open'; written = subst (λ (o : Writing W). Appends (contents old.writer) (contents o.writer) here.text) (sym same) here.written })
      fine (both_ways new.failed (ap (λ (o : Writing W). o.failed) same ∙ sound)))
  ends-advance mid after out new count counted held kept ended r e so fine sound (Answers piece open' taken more ends emptied) was =
      let line = so.begun ++ piece in
      let lines = so.lines ++ line ∷ [] in
      let whole = All-append IsOpen so.lines (line ∷ []) so.whole (All-cons IsOpen line [] (All-append (λ byte. byte ≢ newline) so.begun piece so.open' open') (All-nil IsOpen)) in
      let same : (joined so.lines ++ so.begun) ++ with_end piece ≡ joined lines ++ [] =
      append_assoc (joined so.lines) so.begun (with_end piece) ∙ ap (λ l. joined so.lines ++ l) (sym (append_assoc so.begun piece (newline ∷ [])))
      ∙ sym (joined-more so.lines line) ∙ sym (append-nil (joined lines)) in
      let given = subst (Consumes (left remaining before) (left remaining after)) same (Consumes-trans _ _ _ _ (with_end piece) so.given taken) in
      let all : lines_of (joined lines ++ []) ≡ lines = lines-joined lines [] whole (All-nil (λ byte. byte ≢ newline)) ∙ append-nil lines in
      let cuts : cut (held ++ piece) ≡ cut line = ap (λ l. cut (l ++ piece)) so.kept ∙ cut-append so.begun piece in
      ends-answer mid after out new count held ended r e line (joined lines ++ []) so given all fine (subst (λ l. EndsAnswer contents (Q (count + 1) l) out new r) cuts ends) was

  -- nothing is held at the end
  pub ends-none : (mid after : LineReading R) (out new : Writing W) (count : ℕ) (held : List ℕ) (ended : Ended) → So mid out count held ended → held ≡ [] → IsAtEnd (left remaining mid)
      → Keeps (left remaining mid) (left remaining after) → Keeps (contents out.writer) (contents new.writer) → (IsTrue after.failed → ⊥) → (IsTrue new.failed → ⊥) → EndsAs after new (Ok ended)
  ends-none mid after out new count held ended so none end same still fine sound =
      let begun : so.begun ≡ [] = cut-nil so.begun (sym so.kept ∙ none) in
      let lines : lines_of (joined so.lines ++ so.begun) ≡ so.lines = lines-joined so.lines so.begun so.whole so.open' ∙ ap (λ l. so.lines ++ last_line l) begun ∙ append-nil so.lines in
      ends-done mid after new (joined so.lines ++ so.begun) so.text ended so.given end same (Appends-kept _ _ _ so.text so.written still)
      (subst (λ l. AnswersEach (OfAnyLine Q) l ended so.text) (sym lines) so.so) fine sound

  -- what is held at the end is a line
  pub last_lines : (mid : LineReading R) (out : Writing W) (count : ℕ) (held : List ℕ) (ended : Ended) → (so : So mid out count held ended) → held ≢ [] → lines_of (joined so.lines ++ so.begun) ≡ so.lines ++ so.begun ∷ []
  last_lines mid out count held ended so some =
      lines-joined so.lines so.begun so.whole so.open' ∙ ap (λ l. so.lines ++ l) (last_line-some so.begun (λ none. some (so.kept ∙ ap cut none)))

  last_cut : (mid : LineReading R) (out : Writing W) (count : ℕ) (held : List ℕ) (ended : Ended) → (so : So mid out count held ended) → cut (held ++ []) ≡ cut so.begun
  last_cut mid out count held ended so = ap (λ l. cut (l ++ [])) so.kept ∙ cut-append so.begun [] ∙ ap cut (append-nil so.begun)

  -- the last line was answered
  pub ends-last : (mid after : LineReading R) (out new : Writing W) (count : ℕ) (held : List ℕ) (ended last : Ended) (r : Result Ended EngineFault) → So mid out count held ended → held ≢ [] → IsAtEnd (left remaining mid)
      → Keeps (left remaining mid) (left remaining after) → (IsTrue after.failed → ⊥) → EndsAnswer contents (Q (count + 1) (cut (held ++ []))) out new r → r ≡ Ok last → EndsAs after new (Ok (both ended last))
  ends-last mid after out new count held ended last r so some end same fine ends was =
      let here = subst (λ l. EndsAnswer contents (Q (count + 1) l) out new r) (last_cut mid out count held ended so) ends in
      let wrote = IfOk-at_ok (λ ended. WritesText (contents out.writer) (contents new.writer) (Q (count + 1) (cut so.begun) ended)) was here.ends.ended in
      ends-done mid after new (joined so.lines ++ so.begun) (so.text ++ wrote.text) (both ended last) so.given end same (Appends-trans _ _ _ so.text wrote.text so.written wrote.written)
      (subst (λ l. AnswersEach (OfAnyLine Q) l (both ended last) (so.text ++ wrote.text)) (sym (last_lines mid out count held ended so some)) (answered-more (OfAnyLine Q) count so.lines ended so.text so.begun wrote.text last so.counted so.so (OfAnyLine-cut Q (count + 1) so.begun wrote.text last wrote.so)))
      fine (λ t. ok≢err r last faults.Write was (here.ends.write.1 t))

  -- the last line was not answered
  pub ends-unfinished : (mid after : LineReading R) (out new : Writing W) (count : ℕ) (held : List ℕ) (ended : Ended) (r : Result Ended EngineFault) (e : EngineFault) → So mid out count held ended → held ≢ []
      → Keeps (left remaining mid) (left remaining after) → (IsTrue after.failed → ⊥) → EndsAnswer contents (Q (count + 1) (cut (held ++ []))) out new r → r ≡ Err e → EndsAs after new (Err e)
  ends-unfinished mid after out new count held ended r e so some same fine ends was =
      ends-answer mid after out new count held ended r e so.begun (joined so.lines ++ so.begun) so (Consumes-kept _ _ _ _ so.given same) (last_lines mid out count held ended so some) fine
      (subst (λ l. EndsAnswer contents (Q (count + 1) l) out new r) (last_cut mid out count held ended so) ends) was
