-- What a command and its options ask for, by what `clap` found among the words.
use Rattle.std.specs.Prelude.{◌≡◌, ◌≤◌, ℕ, Bool, true, false, ◌&&◌, ◌||◌, List, [], ◌∷◌, Option, Some, None, Contains, cond, codes}
use Rattle.std.specs.Str.Parse.{IsNumeral, digits_value}
use Rattle.clap.specs.Words.{first_value, found_of, one_text}
use Rattle.clap.specs.declared.parser.matches.ArgMatches.{ArgMatches}
use Rattle.odb_cli.specs.declared.command_line.BadArguments.{BadArguments}
use Rattle.odb_cli.specs.declared.command_line.BadArguments.TheVariants as wrongs
use Rattle.odb_cli.specs.declared.command_line.CommandLine.{CommandLine}
use Rattle.odb_cli.specs.declared.command_line.CommandLine.TheVariants.{Answer, Print}
use Rattle.odb_cli.specs.declared.command_line.Job.{Job}
use Rattle.odb_cli.specs.declared.command_line.LogOptions.{LogOptions}
use Rattle.odb_reply.specs.declared.strictness.Strictness.{Strictness}
use Rattle.odb_reply.specs.declared.strictness.Strictness.TheVariants.{Requests, Units}
use Rattle.odb_engine.specs.declared.form.Form.{Form}
use Rattle.odb_engine.specs.declared.form.Form.TheVariants as forms
use Rattle.odb_engine.specs.declared.tasks.task.Task.{Task}
use Rattle.odb_engine.specs.declared.tasks.task.Task.TheVariants as tasks
use Rattle.odb_sched.specs.declared.order.Order.{Order}
use Rattle.odb_sched.specs.declared.order.Order.TheVariants.{First, Last, Wide}
use Rattle.odb_sched.specs.declared.policy.Mode.{Mode}
use Rattle.odb_sched.specs.declared.policy.Mode.TheVariants.{Continue, Stop}
use Rattle.odb_sched.specs.declared.policy.Policy.{Policy}

-- the value is true if the flag of this name was given: `clap` keeps `true` of it, or `false`, or nothing
pub record TellsFlag (args : ArgMatches) (name : List ℕ) (value : Bool) : Type 0 where
  pub given : one_text (found_of args) name ≡ Some (codes "true") → value ≡ true
  pub not_given : one_text (found_of args) name ≡ Some (codes "false") → value ≡ false
  pub unknown : one_text (found_of args) name ≡ None → value ≡ false

-- the word after the option of this name, if it was given
abbrev pub word_after : ArgMatches → List ℕ → Option (List ℕ)
word_after args name = first_value (found_of args) name

-- --stop
abbrev pub AsksMode : ArgMatches → Mode → Type 0
AsksMode args Continue = TellsFlag args (codes "stop") false
AsksMode args Stop = TellsFlag args (codes "stop") true

-- --strict and --units
abbrev pub AsksStrictness : ArgMatches → Option Strictness → Type 0
AsksStrictness args None = TellsFlag args (codes "strict") false
AsksStrictness args (Some Requests) = TellsFlag args (codes "strict") true × TellsFlag args (codes "units") false
AsksStrictness args (Some Units) = TellsFlag args (codes "strict") true × TellsFlag args (codes "units") true

-- --order and its word, if it was given
abbrev pub AsksOrder : Option (List ℕ) → Order → Type 0
AsksOrder None order = order ≡ First
AsksOrder (Some word) First = word ≡ codes "first"
AsksOrder (Some word) Last = word ≡ codes "last"
AsksOrder (Some word) Wide = word ≡ codes "wide"

-- the word is decimal digits for a number from 1 to 10,000
pub record IsWidth (word : List ℕ) (width : ℕ) : Type 0 where
  pub digits : IsNumeral 10 word
  pub value : digits_value 10 word ≡ width
  pub least : 1 ≤ width
  pub most : width ≤ 10000

-- --width and its word, if it was given
abbrev pub AsksWidth : Option (List ℕ) → ℕ → Type 0
AsksWidth None width = width ≡ 10000
AsksWidth (Some word) width = IsWidth word width

-- --stop and --width
pub record AsksPolicy (args : ArgMatches) (policy : Policy) : Type 0 where
  pub mode : AsksMode args policy.mode
  pub width : AsksWidth (word_after args (codes "width")) policy.width

-- the word after --order or --width is wrong
abbrev pub IsRefused : ArgMatches → BadArguments → Type 0
IsRefused args wrongs.Order = (order : Order) → ¬ (AsksOrder (word_after args (codes "order")) order)
IsRefused args wrongs.Width = (width : ℕ) → ¬ (AsksWidth (word_after args (codes "width")) width)
IsRefused args wrongs.StandardInputTwice = ⊥
IsRefused args (wrongs.Arguments error) = ⊥

-- the commands over documents
abbrev pub task_names : List (List ℕ)
task_names = codes "check" ∷ codes "plan" ∷ codes "canon" ∷ codes "match" ∷ codes "rest" ∷ codes "replay"
    ∷ codes "run" ∷ []

-- the task of the command of this name
abbrev pub AsksTask : ArgMatches → List ℕ → Task → Type 0
AsksTask args name (tasks.Check all) = (name ≡ codes "check") × TellsFlag args (codes "all") all
AsksTask args name (tasks.Plan full) = (name ≡ codes "plan") × TellsFlag args (codes "dot") false
    × TellsFlag args (codes "full") full
AsksTask args name tasks.Draw = (name ≡ codes "plan") × TellsFlag args (codes "dot") true
AsksTask args name tasks.Canon = name ≡ codes "canon"
AsksTask args name (tasks.Match mode strict) = (name ≡ codes "match") × AsksMode args mode
    × AsksStrictness args strict
AsksTask args name (tasks.Rest mode) = (name ≡ codes "rest") × AsksMode args mode
AsksTask args name (tasks.Replay policy order traced) = (name ≡ codes "replay") × AsksPolicy args policy
    × AsksOrder (word_after args (codes "order")) order × TellsFlag args (codes "trace") traced
AsksTask args name (tasks.Run policy) = (name ≡ codes "run") × AsksPolicy args policy

-- whether a task answers in JSON alone, of documents or of the lines of a log
abbrev pub has_json_alone : Task → Bool → Bool
has_json_alone (tasks.Check all) in_log = all && in_log
has_json_alone (tasks.Plan full) in_log = full || in_log
has_json_alone tasks.Draw in_log = false
has_json_alone tasks.Canon in_log = false
has_json_alone (tasks.Match mode strict) in_log = in_log
has_json_alone (tasks.Rest mode) in_log = false
has_json_alone (tasks.Replay policy order traced) in_log = false
has_json_alone (tasks.Run policy) in_log = false

-- --json, or a task that answers in JSON alone
pub record AsksForm (args : ArgMatches) (task : Task) (form : Form) : Type 0 where
  pub json : Bool
  pub in_log : Bool
  pub tells_json : TellsFlag args (codes "json") json
  pub tells_lines : TellsFlag args (codes "lines") in_log
  pub is : form ≡ cond (json || has_json_alone task in_log) forms.Json forms.Lines

-- --lines, --flush and --number
abbrev pub AsksLog : ArgMatches → Option LogOptions → Type 0
AsksLog args None = TellsFlag args (codes "lines") false
AsksLog args (Some options) = TellsFlag args (codes "lines") true × TellsFlag args (codes "flush") options.flush
    × TellsFlag args (codes "number") options.numbered

-- how a job answers
pub record AsksJob (args : ArgMatches) (job : Job) : Type 0 where
  pub form : AsksForm args job.task job.form
  pub located : TellsFlag args (codes "where") job.located
  pub quiet : TellsFlag args (codes "quiet") job.quiet
  pub log : AsksLog args job.log

-- all but where documents are read, and which text is printed
abbrev pub Asks : ArgMatches → List ℕ → CommandLine → Type 0
Asks args name (Answer job) = AsksTask args name job.task × AsksJob args job
Asks args name (Print text) = ¬ (Contains task_names name)
