-- Worked examples: what is shown where x has the second of two values of a named type, by its position.
use Rattle.std.proofs.Common.{◌≡◌, refl, sym, ap, subst, Bool, true, false, [], ◌∷◌, Some, None, codes, pos, arith, if◌then◌else◌}
use Rattle.ess_semantics.specs.declared.words.Op2.{Op2}
use Rattle.ess_semantics.specs.Values.{Text, Value, number}
use Rattle.ess_semantics.specs.Order.{same_text}
use Rattle.ess_semantics.specs.Names.{Names}
use Rattle.ess_semantics.specs.Trees.{Ex, comp_ex, no_gens, over, name_pat, name_dom, ex2}
use Rattle.ess_semantics.specs.Meaning.{Env, TypeEntry, meaning, domain_of, named_domain}
use Rattle.ess_semantics.specs.Meets.{Meets, MeetsDom}
use Rattle.ess_semantics.proofs.Shorthands.{N, n}
use Rattle.ess_repr_laws.specs.StructureParts.{upto}
use Rattle.conjure_model_laws.specs.Shown.{Shows, shown}
use Rattle.conjure_model_laws.specs.ToldApart.{told, told_apart}
use Rattle.conjure_model_laws.specs.StandsFor.{with_values, StandsFor, IsReady}
use Rattle.conjure_model_laws.proofs.ShownLaws.{shown-stands}
use Rattle.conjure_model_laws.proofs.WrittenLaws.{written-trees-stand}

abbrev x : Text
x = codes "x"

abbrev t : Text
t = codes "t"

abbrev two_values : TypeEntry
two_values = record { name = t; count = 2; names = [] }

-- over values, with positions
abbrev env : Env
env = record { positions = true; types = two_values ∷ []; vals = (x, number (pos 2)) ∷ []; cells = [] }

-- over tables
abbrev there : Env
there = record { positions = true; types = []; vals = []; cells = [] }

abbrev sh : Shows
sh = record { first = (x, n 2) ∷ []; last = (x, n 2) ∷ []; sizes = (t, n 2) ∷ []; doms = []; next = 0 }

has_value : (b : Bool) (w : Ex) → (if b then Some (n 2) else None) ≡ Some w → (h : Names Value) →
    (meaning w (with_values there h) ≡ (if b then Some (number (pos 2)) else None)) × Meets w (with_values there h)
has_value true w e h =
    let z : n 2 ≡ w = cc in (sym (ap (λ y. meaning y (with_values there h)) z), subst (λ y. Meets y (with_values there h)) z tt)
has_value false w e h = cc

other : (b : Bool) → (if b then Some (n 2) else None) ≡ None → None ≡ (if b then Some (number (pos 2)) else None)
other true e = cc
other false e = refl

range : (b : Bool) (a : Text) (h : Names Value) →
    domain_of (elim (if b then Some (n 2) else None) [ Some e ↦ upto e | None ↦ name_dom a ]) (with_values there h) ≡
    named_domain true a (elim b [ true ↦ Some two_values | false ↦ None ])
range true a h = refl
range false a h = refl

range_met : (b : Bool) (a : Text) (h : Names Value) →
    MeetsDom (elim (if b then Some (n 2) else None) [ Some e ↦ upto e | None ↦ name_dom a ]) (with_values there h)
range_met true a h = (tt, (tt, tt))
range_met false a h = tt

stands : StandsFor sh (λ a. true) env there
stands = record {
  first = λ a w e h. has_value (same_text x a) w e h;
  last = λ a w e h. has_value (same_text x a) w e h;
  both = λ a. (λ e. e, λ e. e);
  others = λ a k e. other (same_text x a) e;
  types = λ a h. range (same_text t a) a h;
  types_met = λ a h. range_met (same_text t a) a h;
}

-- [i = x | i : t]
abbrev which : Ex
which = comp_ex (ex2 true Op2.Eq (N (codes "i")) (N x)) (over (name_pat (codes "i")) (name_dom t) no_gens)

-- it is [i = 2 | i : int(1..2)]
written : shown sh which ≡ comp_ex (ex2 true Op2.Eq (N (codes "i")) (n 2)) (over (name_pat (codes "i")) (upto (n 2)) no_gens)
written = refl

-- and means the same, as the law says
same_items : meaning (shown sh which) there ≡ meaning which env
same_items =
    shown-stands.means sh (λ a. true) env there stands which ((tt, (tt, tt)), (tt, tt)) ((refl, (refl, tt)), (refl, tt, tt))

-- and as computing it does
computed : meaning (shown sh which) there ≡ meaning which env
computed = refl

-- [x | x : t] binds a name that is shown, so it is to be told apart first
abbrev hidden : Ex
hidden = comp_ex (N x) (over (name_pat x) (name_dom t) no_gens)

abbrev twice : Ex
twice = comp_ex (n 2) (over (name_pat x) (name_dom t) no_gens)

wrong : meaning (shown sh hidden) there ≡ meaning twice env
wrong = refl

-- told apart it is ready
ready : IsReady sh (λ a. true) env there 0 (λ a. false) hidden
ready = record {
  stands = stands;
  plain = (tt, (tt, tt));
  free = ((tt, tt), refl);
  in_use = λ a e. refl;
  reserved_in_use = λ j. refl;
  reserved_unshown = λ j. refl;
  unreserved = λ j l. refl;
  few = let one : (told hidden [] 0).1 ≡ 1 = refl in omega (arith, one);
}

-- so it means the same
right : meaning (shown sh (told_apart 0 hidden)) there ≡ meaning hidden env
right = written-trees-stand.means sh (λ a. true) env there 0 (λ a. false) hidden ready
