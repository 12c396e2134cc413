-- A text names one method.
use Rattle.std.proofs.Common.{◌≡◌, ◌∙◌, ◌+◌, ℕ, List, length, get_or, if◌then◌else◌, ◌==◌, refl, ap, sym}
use Rattle.odb_names.specs.Methods.{method_name, Names}
use Rattle.odb_names.specs.declared.method.Method.{Method}
use Rattle.odb_names.specs.declared.method.Method.TheVariants.{Delete, Get, Patch, Post, Put}

-- the method whose name has this sum of its length and its second letter, and that of a name
abbrev by_sum : ℕ → Method
by_sum sum =
    if sum == 107 then Delete else (if sum == 104 then Get else (if sum == 102 then Patch else (if sum == 115 then Post else Put)))

abbrev named : List ℕ → Method
named name = by_sum (length name + get_or name 1 0)

named-method_name : (method : Method) → named (method_name method) ≡ method
named-method_name Delete = refl
named-method_name Get = refl
named-method_name Patch = refl
named-method_name Post = refl
named-method_name Put = refl

pub one_method : (text : List ℕ) (method other : Method) → Names text method → Names text other → method ≡ other
one_method text method other one two =
    sym (named-method_name method) ∙ ap named (sym one ∙ two) ∙ named-method_name other
