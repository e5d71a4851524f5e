-- The plans for what a header asks for, one after the other, are the plans of its specification.
use Rattle.std.proofs.Common.{◌≡◌, refl, sym, ap, ◌∙◌, true, false, ◌&&◌, List, [], ◌∷◌, ◌++◌, map, Some, None, append_assoc}
use Rattle.ess_semantics.specs.Values.{Text}
use Rattle.ess_semantics.specs.Lists.{append_all, or_default}
use Rattle.ess_semantics.specs.Names.{Names, look, keys, without, all_distinct, is_among}
use Rattle.ess_semantics.specs.Order.{same_text}
use Rattle.ess_semantics.specs.Choice.{default_repr}
use Rattle.ess_semantics.specs.Judgements.{fault, is_well_typed}
use Rattle.ess_semantics.specs.Parameters.{all_declared}
use Rattle.ess_semantics.specs.Prepared.{prepared}
use Rattle.ess_semantics.specs.TableNames.{table_names, named_tables}
use Rattle.ess_semantics.specs.Trees.{Repr, Dom, Stm, given, given_enum, let_ex, let_dom, let_enum, let_unnamed, needs, find, such_that, minimise, maximise}
use Rattle.ess_semantics.specs.Plans.{Side, givens_side, finds_side, Plan, size_plan, value_plan, names_of_plan, names_of_plans, chosen_reprs, domain_of_stm, kept_names, plans_of_name, plans_from}
use Rattle.ess_semantics.proofs.Tests.{and-left, and-right}
use Rattle.ess_semantics.proofs.Texts.{same_text-equal}
use Rattle.conjure_laws.proofs.Lists.{each-both}
use Rattle.conjure_laws.proofs.NamedTables.{keys-append, look-middle}
use Rattle.conjure_laws.proofs.JudgedDistinct.{kept-distinct}
use Rattle.conjure_laws.proofs.JudgedNames.{IsRight, judged-right}
use Rattle.ess_repr_declare_laws.specs.Laws.{Sound}
use Rattle.ess_translate_header_laws.specs.Headers.{all_fit, are_reprs_of}
use Rattle.ess_translate_plans_laws.specs.Requests.{Request, size_of, tables_of, all_tables_of, requests, plan_for, plans_for_all, HasNumbers, SameNames}
use Rattle.ess_translate_plans_laws.specs.Laws.{taken_at_first, PlansComeInOrder}
use Rattle.ess_translate_plans_laws.proofs.FreeBySets.{free-alike, tables-alike, before-alike, behind-alike, beside-alike, changed-places}
use Rattle.ess_translate_plans_laws.proofs.RightRequests.{well-sound, requests-right}

-- ---- plans depend on which names are taken

both-alike : (D E S T : List Text) → SameNames D E → SameNames S T → SameNames (D ++ S) (E ++ T)
both-alike D E S T h k = λ a. behind-alike D E S h a ∙ before-alike E S T k a

-- A plan is the same beside the same names.
pub plan-alike : (q : Request) (D E S T : List Text) → SameNames D E → SameNames S T → plan_for q D S ≡ plan_for q E T
plan-alike (size_of t) D E S T h k = ap (size_plan t) (free-alike (D ++ S) (E ++ T) _ (both-alike D E S T h k))
plan-alike (tables_of f x r d) D E S T h k =
    ap (value_plan f x r d) (tables-alike x (table_names r d) (without x D ++ S) (without x E ++ T)
    (both-alike (without x D) (without x E) S T (beside-alike false x D E h) k))

-- So are several.
pub plans-alike : (qs : List Request) (D E S T : List Text) → SameNames D E → SameNames S T → plans_for_all qs D S ≡ plans_for_all qs E T
plans-alike [] D E S T h k = refl
plans-alike (q ∷ qs) D E S T h k =
    let p : Plan = plan_for q E T in
    ap (λ r. r ∷ plans_for_all qs D (keys (names_of_plan r) ++ S)) (plan-alike q D E S T h k)
    ∙ ap (λ ps. p ∷ ps)
    (plans-alike qs D E (keys (names_of_plan p) ++ S) (keys (names_of_plan p) ++ T) h (before-alike (keys (names_of_plan p)) S T k))

-- ---- the plans of a name

name-alike : (f : Side) (x : Text) (d : Dom) (rs : List Repr) (S T : List Text) → SameNames S T →
    plans_of_name f x d rs S ≡ plans_of_name f x d rs T
name-alike f x d [] S T h = refl
name-alike f x d (r ∷ rs) S T h =
    let ns = named_tables x (table_names r d) T in
    ap (λ ms. value_plan f x r d ms ∷ plans_of_name f x d rs (keys ms ++ S)) (tables-alike x (table_names r d) S T h)
    ∙ ap (λ ps. value_plan f x r d ns ∷ ps) (name-alike f x d rs (keys ns ++ S) (keys ns ++ T) (before-alike (keys ns) S T h))

-- The plans of a name, and then the others.
of-name : (f : Side) (x : Text) (d : Dom) (rs : List Repr) (qs : List Request) (D T : List Text) →
    plans_for_all (all_tables_of f x d rs ++ qs) D T ≡
    plans_of_name f x d rs (without x D ++ T) ++ plans_for_all qs D (keys (names_of_plans (plans_of_name f x d rs (without x D ++ T))) ++ T)
of-name f x d [] qs D T = refl
of-name f x d (r ∷ rs) qs D T =
    let ns = named_tables x (table_names r d) (without x D ++ T) in
    let P : List Plan = plans_of_name f x d rs (without x D ++ (keys ns ++ T)) in
    let Q : List Plan = plans_of_name f x d rs (keys ns ++ (without x D ++ T)) in
    let same : P ≡ Q =
    name-alike f x d rs (without x D ++ (keys ns ++ T)) (keys ns ++ (without x D ++ T)) (changed-places (without x D) (keys ns) T) in
    ap (λ l. value_plan f x r d ns ∷ l)
    (of-name f x d rs qs D (keys ns ++ T)
    ∙ ap (λ ps. ps ++ plans_for_all qs D (keys (names_of_plans ps) ++ (keys ns ++ T))) same
    ∙ ap (λ l. Q ++ l)
    (plans-alike qs D D (keys (names_of_plans Q) ++ (keys ns ++ T)) (keys (names_of_plans (value_plan f x r d ns ∷ Q)) ++ T) (λ a. refl)
    (λ a. changed-places (keys (names_of_plans Q)) (keys ns) T a
    ∙ ap (λ l. is_among l a) (sym (append_assoc (keys ns) (keys (names_of_plans Q)) T)
    ∙ ap (λ l. l ++ T) (sym (keys-append ns (names_of_plans Q)))))))

-- ---- the representations of names

-- Of the first name: it has these representations, and the others are those of the other names.
record Front (x : Text) (d : Dom) (xs : Names Dom) (a : Text) (qs : List Repr) (rs : Names (List Repr)) : Type 0 where
  same : x ≡ a
  rest : are_reprs_of xs rs ≡ true

front : (x : Text) (d : Dom) (xs : Names Dom) (a : Text) (qs : List Repr) (rs : Names (List Repr)) →
    are_reprs_of ((x, d) ∷ xs) ((a, qs) ∷ rs) ≡ true → Front x d xs a qs rs
front x d xs a qs rs h =
    let l = and-left (same_text x a && all_fit qs d) (are_reprs_of xs rs) h in record {
      same = same_text-equal x a (and-left (same_text x a) (all_fit qs d) l);
      rest = and-right (same_text x a && all_fit qs d) (are_reprs_of xs rs) h;
    }

-- Representations of names have these names.
names-of-reprs : (xs : Names Dom) (rs : Names (List Repr)) → are_reprs_of xs rs ≡ true → keys rs ≡ keys xs
names-of-reprs [] [] h = refl
names-of-reprs [] (r ∷ rs) h = cc
names-of-reprs (x ∷ xs) [] h = cc
names-of-reprs (x ∷ xs) (r ∷ rs) h =
    let f = front x.0 x.1 xs r.0 r.1 rs h in
    ap (λ a. a ∷ keys rs) (sym f.same) ∙ ap (λ l. x.0 ∷ l) (names-of-reprs xs rs f.rest)

-- ---- statements one after the other

abbrev names_of : List Stm → Names Dom
names_of ss = append_all (map domain_of_stm ss)

-- The plans of the statements, where the representations that are left stand behind others in the options.
abbrev FromHere : List Stm → Type 0
FromHere ss = (o before rs : Names (List Repr)) (D T : List Text) → all_distinct (keys o) ≡ true → o ≡ before ++ rs →
    are_reprs_of (names_of ss) rs ≡ true →
    plans_for_all (requests ss rs) D T ≡ plans_from ss o D T

found : (o before : Names (List Repr)) (a : Text) (qs : List Repr) (rs : Names (List Repr)) → all_distinct (keys o) ≡ true →
    o ≡ before ++ ((a, qs) ∷ rs) → look o a ≡ Some qs
found o before a qs rs n e =
    ap (λ l. look l a) e ∙ look-middle before rs a qs (ap (λ l. all_distinct (keys l)) (sym e) ∙ n)

name-plans : (f : Side) (x : Text) (d : Dom) (ss : List Stm) (a : Text) (qs : List Repr) (o before rs : Names (List Repr))
    (D T : List Text) → FromHere ss →
    all_distinct (keys o) ≡ true → o ≡ before ++ ((a, qs) ∷ rs) → are_reprs_of ((x, d) ∷ names_of ss) ((a, qs) ∷ rs) ≡ true →
    plans_for_all (all_tables_of f x d qs ++ requests ss rs) D T ≡
    plans_of_name f x d (chosen_reprs o x d) (without x D ++ T)
    ++ plans_from ss o D (keys (names_of_plans (plans_of_name f x d (chosen_reprs o x d) (without x D ++ T))) ++ T)
name-plans f x d ss a qs o before rs D T k n e h =
    let p = front x d (names_of ss) a qs rs h in
    let c : chosen_reprs o x d ≡ qs =
    ap (λ r. or_default r (default_repr d ∷ [])) (ap (look o) p.same ∙ found o before a qs rs n e) in
    let P : List Plan = plans_of_name f x d qs (without x D ++ T) in
    of-name f x d qs (requests ss rs) D T
    ∙ ap (λ l. P ++ l)
    (k o (before ++ ((a, qs) ∷ [])) rs D (keys (names_of_plans P) ++ T) n (e ∙ sym (append_assoc before ((a, qs) ∷ []) rs)) p.rest)
    ∙ ap (λ q. plans_of_name f x d q (without x D ++ T)
    ++ plans_from ss o D (keys (names_of_plans (plans_of_name f x d q (without x D ++ T))) ++ T)) (sym c)

from-here : (ss : List Stm) → FromHere ss
from-here [] o before rs D T n e h = refl
from-here (given x d ∷ ss) o before [] D T n e h = cc
from-here (given x d ∷ ss) o before (r ∷ rs) D T n e h = name-plans givens_side x d ss r.0 r.1 o before rs D T (from-here ss) n e h
from-here (find x d ∷ ss) o before [] D T n e h = cc
from-here (find x d ∷ ss) o before (r ∷ rs) D T n e h = name-plans finds_side x d ss r.0 r.1 o before rs D T (from-here ss) n e h
from-here (given_enum t ∷ ss) o before rs D T n e h =
    let p : Plan = plan_for (size_of t) D T in
    ap (λ l. p ∷ l) (from-here ss o before rs D (keys (names_of_plan p) ++ T) n e h)
from-here (let_ex x b ∷ ss) o before rs D T n e h = from-here ss o before rs D T n e h
from-here (let_dom x d ∷ ss) o before rs D T n e h = from-here ss o before rs D T n e h
from-here (let_enum t ns ∷ ss) o before rs D T n e h = from-here ss o before rs D T n e h
from-here (let_unnamed t b ∷ ss) o before rs D T n e h = from-here ss o before rs D T n e h
from-here (needs b ∷ ss) o before rs D T n e h = from-here ss o before rs D T n e h
from-here (such_that b ∷ ss) o before rs D T n e h = from-here ss o before rs D T n e h
from-here (minimise b ∷ ss) o before rs D T n e h = from-here ss o before rs D T n e h
from-here (maximise b ∷ ss) o before rs D T n e h = from-here ss o before rs D T n e h

-- ---- the whole

well-typed : (S : List Stm) → fault S ≡ None → is_well_typed S ≡ true
well-typed S e = ap (λ o. elim o [ None ↦ true | Some f ↦ false ]) e

-- The plans come in order.
pub come-in-order : PlansComeInOrder
come-in-order S rs e h k =
    let w = well-typed S e in record {
      right = requests-right (prepared S) rs h
          (each-both (kept_names S) IsRight (λ x. HasNumbers x.1) (λ x. Sound x.1) (λ x r n. well-sound x.1 r.0 n) (judged-right S w) k);
      plans = from-here (prepared S) rs [] rs (all_declared S) taken_at_first
          (ap all_distinct (names-of-reprs (kept_names S) rs h) ∙ kept-distinct S w) refl h;
    }
