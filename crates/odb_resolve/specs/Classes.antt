-- The classes of bytes that texts are cut by, each by its test, and the parts that the code holds.
use Rattle.std.specs.Prelude.{◌≡◌, ◌≢◌, ℕ, Bool, false, List, ◌∷◌, ◌++◌, All}
use Rattle.std.specs.List.{AllPass}
use Rattle.odb_resolve.specs.declared.run.Class.{Class}
use Rattle.odb_resolve.specs.declared.run.Class.TheVariants.{Sent, Hierarchy, Segment, Scheme, Name}
use Rattle.odb_resolve.specs.declared.parts.Parts.{Parts}
use Rattle.odb_resolve.specs.declared.target.Target.{Target}
use Rattle.odb_resolve.specs.Urls.{Url, is_sent, is_in_hierarchy, is_in_segment, is_in_scheme}
use Rattle.odb_resolve.specs.Safety.{is_in_name}
use Rattle.odb_resolve.specs.Texts.{slash}

-- the byte belongs to the class
abbrev pub is_of : Class → ℕ → Bool
is_of Sent = is_sent
is_of Hierarchy = is_in_hierarchy
is_of Segment = is_in_segment
is_of Scheme = is_in_scheme
is_of Name = is_in_name

-- the text is its longest run of bytes that pass the test, and then the rest
pub record SplitsRun (test : ℕ → Bool) (text run rest : List ℕ) : Type 0 where
  pub whole : text ≡ run ++ rest
  pub passes : AllPass test run
  pub stops : (first : ℕ) (more : List ℕ) → rest ≡ first ∷ more → test first ≡ false

-- no `/`
abbrev pub HasNoSlash : List ℕ → Type 0
HasNoSlash text = All (λ byte. byte ≢ slash) text

-- the URL whose parts these are
abbrev pub url_of_parts : Parts → Url
url_of_parts parts = record {
  scheme = parts.scheme.now;
  authority = parts.authority.now;
  path = parts.path.now;
  query = parts.query.now;
}

abbrev pub url_of_target : Target → Url
url_of_target target = record {
  scheme = target.scheme.now;
  authority = target.authority.now;
  path = target.path.items;
  query = target.query.now;
}
