-- How a proof distinguishes JSON values and methods: for the models of outcomes and of runs, nothing to believe.
use Rattle.std.proofs.Common.{◌≡◌, ℕ, List, refl, ap, arith}
use Rattle.std.specs.Coded.{Coded, coded_list, coded_ℕ, coded_ℤ, coded_bool}
use base.Stored.{Gv, gnil, gnum, gcons, coded_float}
use Rattle.odb_names.specs.contracts.method.Method as method
use Rattle.odb_names.specs.declared.method.Method.{Method}
use Rattle.serde_json.specs.Data.{Num, unsigned, negative, float, Data, null, boolean, number, string, array, object, Items, no_items, item, Members, no_members, member}

abbrev num_code : Num → Gv
num_code (unsigned n) = gcons (gnum 0) (gnum n)
num_code (negative z) = gcons (gnum 1) (coded_ℤ.code z)
num_code (float x) = gcons (gnum 2) (coded_float.code x)

abbrev text_code : List ℕ → Gv
text_code text = (coded_list coded_ℕ).code text

abbrev mutual
  pub code_of : Data → Gv
  code_of null = gcons (gnum 0) gnil
  code_of (boolean b) = gcons (gnum 1) (coded_bool.code b)
  code_of (number n) = gcons (gnum 2) (num_code n)
  code_of (string s) = gcons (gnum 3) (text_code s)
  code_of (array ds) = gcons (gnum 4) (items_code ds)
  code_of (object ms) = gcons (gnum 5) (members_code ms)

  items_code : Items → Gv
  items_code no_items = gnil
  items_code (item d ds) = gcons (code_of d) (items_code ds)

  members_code : Members → Gv
  members_code no_members = gnil
  members_code (member k d ms) = gcons (text_code k) (gcons (code_of d) (members_code ms))

-- ---- the parts of a code

abbrev tag : Gv → ℕ
tag gnil = 0
tag (gnum n) = 0
tag (gcons gnil b) = 0
tag (gcons (gnum n) b) = n
tag (gcons (gcons a c) b) = 0

abbrev first : Gv → Gv
first gnil = gnil
first (gnum n) = gnil
first (gcons a b) = a

abbrev rest : Gv → Gv
rest gnil = gnil
rest (gnum n) = gnil
rest (gcons a b) = b

-- 1 for a pair
abbrev pairs : Gv → ℕ
pairs gnil = 0
pairs (gnum n) = 0
pairs (gcons a b) = 1

-- ---- equal codes are those of equal values

one_num : (x y : Num) → num_code x ≡ num_code y → x ≡ y
one_num (unsigned m) (unsigned n) e = ap unsigned (coded_ℕ.inj m n (ap rest e))
one_num (negative m) (negative n) e = ap negative (coded_ℤ.inj m n (ap rest e))
one_num (float m) (float n) e = ap float (coded_float.inj m n (ap rest e))
one_num x y e = absurd (omega (arith, ap tag e))

one_text : (s t : List ℕ) → text_code s ≡ text_code t → s ≡ t
one_text s t e = (coded_list coded_ℕ).inj s t e

mutual
  pub one_value : (d e : Data) → code_of d ≡ code_of e → d ≡ e
  one_value null null p = refl
  one_value (boolean b) (boolean c) p = ap boolean (coded_bool.inj b c (ap rest p))
  one_value (number m) (number n) p = ap number (one_num m n (ap rest p))
  one_value (string s) (string t) p = ap string (one_text s t (ap rest p))
  one_value (array ds) (array es) p = ap array (one_items ds es (ap rest p))
  one_value (object ms) (object ns) p = ap object (one_members ms ns (ap rest p))
  one_value d e p = absurd (omega (arith, ap tag p))

  one_items : (ds es : Items) → items_code ds ≡ items_code es → ds ≡ es
  one_items no_items no_items p = refl
  one_items (item d ds) (item e es) p = λ i. item (one_value d e (ap first p) i) (one_items ds es (ap rest p) i)
  one_items ds es p = absurd (omega (arith, ap pairs p))

  one_members : (ms ns : Members) → members_code ms ≡ members_code ns → ms ≡ ns
  one_members no_members no_members p = refl
  one_members (member k d ms) (member l e ns) p = λ i. member (one_text k l (ap first p) i) (one_value d e (ap (λ g. first (rest g)) p) i) (one_members ms ns (ap (λ g. rest (rest g)) p) i)
  one_members ms ns p = absurd (omega (arith, ap pairs p))

abbrev pub data_code : Coded Data
data_code = record { code = code_of; inj = one_value }

abbrev pub method_code : Coded Method
method_code = method.the_row.coded
