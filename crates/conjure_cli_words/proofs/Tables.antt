-- A table of options as the rules of a `clap` command that is built, and what its lookups find.
use Rattle.std.proofs.Common.{◌≡◌, ◌∙◌, ℕ, ◌==◌, ◌&&◌, ◌||◌, not, Bool, cond, true, false, List, [], ◌∷◌, map, Option, Some, None, refl}
use Rattle.std.proofs.Common.{sym, ap, ap₂, subst, codes, eqb-true}
use Rattle.std.specs.List.{list_any, find}
use Rattle.std.specs.Str.{bytes_eq}
use Rattle.std.proofs.lemmas.Slice.Eq.{bytes_eq-Decides}
use Rattle.clap.specs.Walk.{Rule, arg_by_id, arg_by_index, arg_by_long, arg_by_short}
use Rattle.clap.specs.declared.builder.action.ArgAction.TheVariants.{Set}
use Rattle.clap.specs.declared.builder.value_parser.ValueParser.TheVariants as vp
use Rattle.conjure_cli_words.specs.Items.{Text, Name, short, long, same_name, knows}
use Rattle.conjure_cli_words.specs.Parsers.{Entries, id_of, operand_id}

pub and_false : (b : Bool) → (b && false) ≡ false
and_false true = refl
and_false false = refl

pub and_true : (b : Bool) → (b && true) ≡ b
and_true true = refl
and_true false = refl

pub or_false : (b : Bool) → (b || false) ≡ b
or_false true = refl
or_false false = refl

-- a rule of one value
abbrev pub made : Text → Option Text → Option ℕ → Option ℕ → Bool → Rule
made id l s index required = record {
  id = id;
  long = l;
  aliases = [];
  short = s;
  short_aliases = [];
  index = index;
  action = Some Set;
  range = Some (record { start_inclusive = 1; end_inclusive = 1 });
  value_names = 0;
  defaults = [];
  missing = [];
  trailing_var_arg = false;
  parser = Some vp.String;
  ignore_case = false;
  required = required;
  is_simple = true;
  is_free = true;
}

abbrev pub rule_for : Bool → Name → Rule
rule_for required (short x) = made (id_of (short x)) None (Some x) None required
rule_for required (long n) = made (id_of (long n)) (Some n) None None required

abbrev pub operand_rule : Rule
operand_rule = made operand_id None None (Some 1) true

abbrev pub operand_rules : Bool → List Rule
operand_rules true = operand_rule ∷ []
operand_rules false = []

-- the rules of the options, and of an operand where there is one
abbrev pub rules_of : Entries → Bool → List Rule
rules_of [] p = operand_rules p
rules_of (e ∷ es) p = rule_for e.1 e.0 ∷ rules_of es p

abbrev pub names_in : Entries → List Name
names_in [] = []
names_in (e ∷ es) = e.0 ∷ names_in es

-- ids tell names apart
pub same_id : (a b : Name) → bytes_eq (id_of a) (id_of b) ≡ same_name a b
same_id (short x) (short y) = and_true (x == y)
same_id (short x) (long n) = and_false (x == 45)
same_id (long m) (short y) = and_false (45 == y)
same_id (long m) (long n) = refl

pub option_no_operand : (a : Name) → bytes_eq (id_of a) operand_id ≡ false
option_no_operand (short x) = and_false (x == 111)
option_no_operand (long m) = refl

pub operand_no_option : (a : Name) → bytes_eq operand_id (id_of a) ≡ false
operand_no_option (short x) = and_false (111 == x)
operand_no_option (long m) = refl

pub same_name-is : (a b : Name) → same_name a b ≡ true → a ≡ b
same_name-is (short x) (short y) e = ap short (eqb-true x y e)
same_name-is (short x) (long n) e = cc
same_name-is (long m) (short y) e = cc
same_name-is (long m) (long n) e = ap long ((bytes_eq-Decides m n).0 e)

-- ---- lookups

abbrev pub FoundFor : Name → Option Rule → Type 0
FoundFor name o = (required : Bool) × (o ≡ Some (rule_for required name))

found_next : (b : Bool) (name other : Name) (q known : Bool) (o : Option Rule) → (b ≡ true → other ≡ name) → (b || known) ≡ true
    → (known ≡ true → FoundFor name o) → FoundFor name (cond b (Some (rule_for q other)) o)
found_next true name other q known o same h more = (q, ap (λ (t : Name). Some (rule_for q t)) (same refl))
found_next false name other q known o same h more = more h

none_next : (b known : Bool) (r : Rule) (o : Option Rule) → (b || known) ≡ false → (known ≡ false → o ≡ None) → cond b (Some r) o ≡ None
none_next true known r o h more = cc
none_next false known r o h more = more h

-- the rule of a name that is known
pub by_long : (es : Entries) (p : Bool) (n : Text) → knows (names_in es) (long n) ≡ true → FoundFor (long n) (arg_by_long (rules_of es p) n)
by_long [] p n e = cc
by_long ((short x, q) ∷ es) p n e = by_long es p n e
by_long ((long m, q) ∷ es) p n e =
    subst (λ (b : Bool). FoundFor (long n) (cond b (Some (rule_for q (long m))) (arg_by_long (rules_of es p) n)))
    (sym (or_false (bytes_eq m n)))
    (found_next (bytes_eq m n) (long n) (long m) q (knows (names_in es) (long n)) _ (same_name-is (long m) (long n)) e
    (λ h. by_long es p n h))

pub by_long-none : (es : Entries) (p : Bool) (n : Text) → knows (names_in es) (long n) ≡ false → arg_by_long (rules_of es p) n ≡ None
by_long-none [] true n e = refl
by_long-none [] false n e = refl
by_long-none ((short x, q) ∷ es) p n e = by_long-none es p n e
by_long-none ((long m, q) ∷ es) p n e =
    ap (λ (b : Bool). cond b (Some (rule_for q (long m))) (arg_by_long (rules_of es p) n)) (or_false (bytes_eq m n))
    ∙ none_next (bytes_eq m n) (knows (names_in es) (long n)) (rule_for q (long m)) _ e (λ h. by_long-none es p n h)

pub by_short : (es : Entries) (p : Bool) (n : ℕ) → knows (names_in es) (short n) ≡ true
    → FoundFor (short n) (arg_by_short (rules_of es p) n)
by_short [] p n e = cc
by_short ((long x, q) ∷ es) p n e = by_short es p n e
by_short ((short m, q) ∷ es) p n e =
    subst (λ (b : Bool). FoundFor (short n) (cond b (Some (rule_for q (short m))) (arg_by_short (rules_of es p) n)))
    (sym (or_false (m == n)))
    (found_next (m == n) (short n) (short m) q (knows (names_in es) (short n)) _ (same_name-is (short m) (short n)) e
    (λ h. by_short es p n h))

pub by_short-none : (es : Entries) (p : Bool) (n : ℕ) → knows (names_in es) (short n) ≡ false → arg_by_short (rules_of es p) n ≡ None
by_short-none [] true n e = refl
by_short-none [] false n e = refl
by_short-none ((long x, q) ∷ es) p n e = by_short-none es p n e
by_short-none ((short m, q) ∷ es) p n e =
    ap (λ (b : Bool). cond b (Some (rule_for q (short m))) (arg_by_short (rules_of es p) n)) (or_false (m == n))
    ∙ none_next (m == n) (knows (names_in es) (short n)) (rule_for q (short m)) _ e (λ h. by_short-none es p n h)

at_id : (a name : Name) (q : Bool) (es : Entries) (p : Bool) → arg_by_id (rules_of ((a, q) ∷ es) p) (id_of name)
    ≡ cond (same_name a name) (Some (rule_for q a)) (arg_by_id (rules_of es p) (id_of name))
at_id (short x) name q es p = ap (λ b. cond b (Some (rule_for q (short x))) (arg_by_id (rules_of es p) (id_of name)))
    (same_id (short x) name)
at_id (long m) name q es p = ap (λ b. cond b (Some (rule_for q (long m))) (arg_by_id (rules_of es p) (id_of name))) (same_id (long m) name)

pub by_id : (es : Entries) (p : Bool) (name : Name) → knows (names_in es) name ≡ true
    → FoundFor name (arg_by_id (rules_of es p) (id_of name))
by_id [] p name e = cc
by_id ((a, q) ∷ es) p name e =
    subst (λ (o : Option Rule). FoundFor name o) (sym (at_id a name q es p))
    (found_next (same_name a name) name a q (knows (names_in es) name) _ (same_name-is a name) e (λ h. by_id es p name h))

-- the operand's rule, by its id and by its place
operand_at_id : (es : Entries) → arg_by_id (rules_of es true) operand_id ≡ Some operand_rule
operand_at_id [] = refl
operand_at_id ((short x, q) ∷ es) =
    ap (λ b. cond b (Some (rule_for q (short x))) (arg_by_id (rules_of es true) operand_id)) (option_no_operand (short x))
    ∙ operand_at_id es
operand_at_id ((long m, q) ∷ es) = operand_at_id es

pub operand_by_id : (es : Entries) (p : Bool) → p ≡ true → arg_by_id (rules_of es p) operand_id ≡ Some operand_rule
operand_by_id es true e = operand_at_id es
operand_by_id es false e = cc

pub by_index : (es : Entries) (p : Bool) (k : ℕ) → arg_by_index (rules_of es p) k ≡ cond (p && (1 == k)) (Some operand_rule) None
by_index [] true k = refl
by_index [] false k = refl
by_index ((short x, q) ∷ es) p k = by_index es p k
by_index ((long m, q) ∷ es) p k = by_index es p k

pub id_for : (q : Bool) (name : Name) → (rule_for q name).id ≡ id_of name
id_for q (short x) = refl
id_for q (long m) = refl
