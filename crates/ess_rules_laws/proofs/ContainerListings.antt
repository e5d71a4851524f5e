-- Terms made of functions and of partitions, and literals of these, offer their listings.
use Rattle.std.proofs.Common.{◌≡◌, refl, sym, ap, ◌∙◌, subst, Bool, true, false, ◌&&◌, if◌then◌else◌, List, [], ◌∷◌, map, filter, Option, Some, None, option_map}
use Rattle.std.specs.Prelude.{IsTrue, is_some}
use Rattle.ess_semantics.specs.declared.words.Op2.{Op2}
use Rattle.ess_semantics.specs.declared.words.Fun.{Fun}
use Rattle.ess_semantics.specs.Lists.{and_then, append_all}
use Rattle.ess_semantics.specs.Values.{Text, a_function, a_partition, Value, truth, node, to_list, items_of, from_of, to_of, itself}
use Rattle.ess_semantics.specs.Order.{same, below}
use Rattle.ess_semantics.specs.Collections.{rises, sorted, sorted_once, set_of, mset_of}
use Rattle.ess_semantics.specs.Names.{Names}
use Rattle.ess_semantics.specs.Trees.{word, function_literal, partition_literal, mset_literal, matrix_literal, name_pat, Ex, name_ex, node_ex, matrix_ex, comp_ex, ex2, fun1, no_exs, more_exs, no_gens, from, cond}
use Rattle.ess_semantics.specs.Types.{Ty, Tys, no_tys, more_tys, compound, compound2}
use Rattle.ess_semantics.specs.Typing.{type_of}
use Rattle.ess_semantics.specs.TypeMembers.{is_of_type}
use Rattle.ess_semantics.specs.Typed.{Typed}
use Rattle.ess_semantics.specs.Operators.{list_value, value_of_node}
use Rattle.ess_semantics.specs.Meaning.{Env, meaning, collect, where_true}
use Rattle.ess_semantics.specs.Contexts.{Each}
use Rattle.ess_semantics.specs.Meets.{Meets}
use Rattle.ess_semantics.proofs.Tests.{and-left, and-right}
use Rattle.ess_semantics.proofs.Orders.{to_list-of_list}
use Rattle.ess_semantics.proofs.Sorting.{Distinct, sorted-of, sorted_once-itself, one-set}
use Rattle.ess_semantics.proofs.Multisets.{count-sorted, same-members}
use Rattle.ess_semantics.proofs.Repeats.{sorted-distinct}
use Rattle.ess_semantics.proofs.Overlaps.{no-overlap}
use Rattle.ess_rules_laws.specs.Rules.{Unused, SoundOperands}
use Rattle.ess_rules_laws.specs.ComponentRules.{component_of}
use Rattle.ess_rules_laws.specs.ShortSizeRules.{is_partition}
use Rattle.ess_rules_laws.specs.Listings.{Alternative, items_listed, those}
use Rattle.ess_rules_laws.specs.ListedSources.{Offers}
use Rattle.ess_rules_laws.specs.ContainerListings.{of_function, arguments_listed, members_of_parts, made_listing, range_as_set, MadeListingsList}
use Rattle.ess_rules_laws.proofs.Bindings.{each-map}
use Rattle.ess_rules_laws.proofs.RuleAnswers.{AnswerKeeps, fires, behind, meaning-behind, meets-behind, name-behind, each-in-any}
use Rattle.ess_rules_laws.proofs.Connectives.{binary-means}
use Rattle.ess_rules_laws.proofs.ContainerValues.{Strictly}
use Rattle.ess_rules_laws.proofs.FunctionRules.{pairs-rise}
use Rattle.ess_rules_laws.proofs.FunctionMembershipRules.{IsPairOf, pairs-of, first-means, second-means}
use Rattle.ess_rules_laws.proofs.ListedItems.{same-lists, counted-same, all-members, alone-listed}
use Rattle.ess_rules_laws.proofs.ListsOnce.{sorted-counts, distinct-filtered, collect-map, collect-kept, collect-lists}
use Rattle.ess_rules_laws.proofs.ContainerLiterals.{there, function-literal, partition-literal, set-made, matrix-offers}

-- ---- values of functions and of partitions

-- What a type of functions says of a value.
record IsFunction (t u : Ty) (env : Env) (v : Value) : Type 0 where
  pub pairs : Each (items_of v) (λ p. IsPairOf t u env p ≡ true)
  pub rising : Strictly (items_of v)
  pub apart : Distinct (map from_of (items_of v))

-- Rising by the first parts is rising of the first parts.
rises-firsts : (ps : List Value) → rises from_of ps ≡ rises itself (map from_of ps)
rises-firsts [] = refl
rises-firsts (p ∷ []) = refl
rises-firsts (p ∷ q ∷ ps) = ap (λ b. below (from_of p) (from_of q) && b) (rises-firsts (q ∷ ps))

function-is : (t u : Ty) (env : Env) (v : Value) → IsTrue (is_of_type (compound2 a_function t u) env v) → IsFunction t u env v
function-is t u env (node a_function vs) h = let r = and-left _ _ h in record {
  pairs = pairs-of t u env (node a_function vs) h;
  rising = pairs-rise (IsPairOf t u env) (to_list vs) (λ x q. and-left _ _ (and-left _ _ q)) (and-right _ _ h) r;
  apart = sorted-distinct (map from_of (to_list vs)) (sorted-of (map from_of (to_list vs)) (sym (rises-firsts (to_list vs)) ∙ r));
}
function-is t u env _ h = cc

partition-apart : (o : Option Ty) (env : Env) (v : Value) → is_partition o ≡ true →
    ((s : Ty) → o ≡ Some s → IsTrue (is_of_type s env v)) → Distinct (append_all (map items_of (items_of v)))
partition-apart (Some (compound a_partition ts)) env v q f = go ts v (f (compound a_partition ts) refl)
  where
    go : (ts : Tys) (v : Value) → is_of_type (compound a_partition ts) env v ≡ true → Distinct (append_all (map items_of (items_of v)))
    go (more_tys t no_tys) (node a_partition ps) h = no-overlap (to_list ps) (and-right _ _ h)
    go _ _ h = cc
partition-apart _ env v q f = cc

-- ---- each term

both-there : (o p : Option Value) (W : Fun) → is_some (value_of_node (word W) (o ∷ p ∷ [])) ≡ true →
    (v : Value) × (w : Value) × (o ≡ Some v) × (p ≡ Some w)
both-there None p W t = cc
both-there (Some v) None W t = cc
both-there (Some v) (Some w) W t = (v, w, refl, refl)

-- What a term offers.
abbrev AnswerOffers : Option (List Alternative) → Ex → Env → Type 0
AnswerOffers None e env = Unit {0}
AnswerOffers (Some l) e env = Offers e l env

relation-offers : (o : Option Ty) (x : Text) (f : Ex) (env : Env) (v : Value) → meaning f env ≡ Some v →
    ((s : Ty) → o ≡ Some s → IsTrue (is_of_type s env v)) → Meets f env →
    AnswerOffers (of_function o (λ t u. those x f no_gens ∷ [])) (fun1 false Fun.ToRelation f) env
relation-offers (Some (compound2 a_function t u)) x f env v j h m = let i = function-is t u env v (h (compound2 a_function t u) refl) in
    record {
      lists = same-lists _ _ (ap (λ o. option_map items_of (value_of_node (word Fun.ToRelation) (o ∷ []))) j
          ∙ ap Some (to_list-of_list (sorted_once (items_of v)) ∙ sorted_once-itself (items_of v) i.rising)
          ∙ sym (alone-listed (items_listed (those x f no_gens) env) ∙ all-members x f env ∙ ap (option_map items_of) j));
      met = ((m, each-in-any (meaning f env) _ (λ p. tt)), tt);
    }
relation-offers _ x f env v j h m = tt

defined-offers : (o : Option Ty) (x : Text) (f : Ex) (env : Env) (v : Value) → meaning f env ≡ Some v →
    ((s : Ty) → o ≡ Some s → IsTrue (is_of_type s env v)) → Meets f env →
    AnswerOffers (of_function o (λ t u. arguments_listed x t f no_gens ∷ [])) (fun1 false Fun.Defined f) env
defined-offers (Some (compound2 a_function t u)) x f env v j h m = let i = function-is t u env v (h (compound2 a_function t u) refl) in
    record {
      lists = counted-same _ _ (sorted_once (map from_of (items_of v))) (map from_of (items_of v))
          (ap (λ o. option_map items_of (value_of_node (word Fun.Defined) (o ∷ []))) j
          ∙ ap Some (to_list-of_list (sorted_once (map from_of (items_of v)))))
          (alone-listed (items_listed (arguments_listed x t f no_gens) env) ∙ ap (λ o. and_then o (λ w. collect (items_of w) At)) j
          ∙ collect-map from_of (items_of v) At
          (each-map (items_of v) _ _ (λ p q. ap (option_map (λ w. w ∷ [])) (first-means x t u env p q)) i.pairs))
          (sorted-counts (map from_of (items_of v)) i.apart);
      met = ((m, each-in-any (meaning f env) _ (λ p. (tt, tt))), tt);
    }
  where
    At : Value → Option (List Value)
    At p = option_map (λ w. w ∷ []) (meaning (component_of t 1 (name_ex x)) (behind x p env))
defined-offers _ x f env v j h m = tt

image-offers : (o : Option Ty) (x : Text) (f b : Ex) (env : Env) (v w : Value) → Unused x b → meaning f env ≡ Some v →
    meaning b env ≡ Some w →
    ((s : Ty) → o ≡ Some s → IsTrue (is_of_type s env v)) → Meets f env → Meets b env →
    AnswerOffers (of_function o (λ t u. arguments_listed x t f (cond (ex2 true Op2.Eq (component_of u 2 (name_ex x)) b) no_gens) ∷ []))
    (node_ex false (word Fun.PreImage) (more_exs f (more_exs b no_exs))) env
image-offers (Some (compound2 a_function t u)) x f b env v w new j k h m n = let i = function-is t u env v
    (h (compound2 a_function t u) refl) in record {
      lists = counted-same _ _ (sorted_once There) There
          (ap (λ o. option_map items_of (value_of_node (word Fun.PreImage) (o ∷ meaning b env ∷ []))) j
          ∙ ap (λ o. option_map items_of (value_of_node (word Fun.PreImage) (Some v ∷ o ∷ []))) k
          ∙ ap Some (to_list-of_list (sorted_once There)))
          (alone-listed (items_listed (arguments_listed x t f (cond Test no_gens)) env) ∙ ap (λ o. and_then o (λ z. collect (items_of z) At)) j
          ∙ collect-kept from_of (λ p. same (to_of p) w) (items_of v) At (each-map (items_of v) _ _ at-pair i.pairs))
          (sorted-counts There (distinct-filtered from_of (λ p. same (to_of p) w) (items_of v) i.apart));
      met = ((m, each-in-any (meaning f env) _ (λ p. (((tt, tt), (meets-behind x p b env new n, tt)), λ z. (tt, tt)))), tt);
    }
  where
    There : List Value
    There = map from_of (filter (λ p. same (to_of p) w) (items_of v))

    Test : Ex
    Test = ex2 true Op2.Eq (component_of u 2 (name_ex x)) b

    At : Value → Option (List Value)
    At p = where_true (meaning Test (behind x p env))
        (λ z. option_map (λ w. w ∷ []) (meaning (component_of t 1 (name_ex x)) (behind x p env)))

    at-pair : (p : Value) → IsPairOf t u env p ≡ true → At p ≡ where_true (Some (truth (same (to_of p) w))) (λ z. Some (from_of p ∷ []))
    at-pair p q =
        ap (λ o. where_true o (λ z. option_map (λ w. w ∷ []) (meaning (component_of t 1 (name_ex x)) (behind x p env))))
        (binary-means (behind x p env) true Op2.Eq (component_of u 2 (name_ex x)) b (to_of p) w (second-means x t u env p q)
        (meaning-behind x p b env new ∙ k))
        ∙ ap (λ o. where_true (Some (truth (same (to_of p) w))) (λ z. option_map (λ w. w ∷ []) o)) (first-means x t u env p q)
image-offers _ x f b env v w new j k h m n = tt

participants-offers : (o : Option Ty) (x y : Text) (p : Ex) (env : Env) (v : Value) → meaning p env ≡ Some v →
    ((s : Ty) → o ≡ Some s → IsTrue (is_of_type s env v)) → Meets p env →
    AnswerOffers (if is_partition o then Some (members_of_parts x y p ∷ []) else None) (fun1 false Fun.Participants p) env
participants-offers o x y p env v j h m = go (is_partition o) refl
  where
    All : List Value
    All = append_all (map items_of (items_of v))

    At : Value → Option (List Value)
    At q = items_listed (those x (name_ex y) no_gens) (behind y q env)

    at-part : (q : Value) → At q ≡ Some (items_of q)
    at-part q = all-members x (name_ex y) (behind y q env) ∙ ap (option_map items_of) (name-behind y q env)

    go : (b : Bool) → is_partition o ≡ b →
        AnswerOffers (if b then Some (members_of_parts x y p ∷ []) else None) (fun1 false Fun.Participants p) env
    go false c = tt
    go true c = record {
      lists = counted-same _ _ (sorted_once All) All
          (ap (λ z. option_map items_of (value_of_node (word Fun.Participants) (z ∷ []))) j ∙ ap Some (to_list-of_list (sorted_once All)))
          (alone-listed (items_listed (members_of_parts x y p) env) ∙ ap (λ z. and_then z (λ w. collect (items_of w) At)) j
          ∙ collect-lists (items_of v) At at-part)
          (sorted-counts All (partition-apart o env v c h));
      met = ((m, each-in-any (meaning p env) _ (λ q. (tt, each-in-any (meaning (name_ex y) (behind y q env)) _ (λ u. tt)))), tt);
    }

-- ---- all of them

offers-answer : (g : Names Ty) (x y : Text) (e : Ex) → Unused x e → SoundOperands g e → (env : Env) → Typed g env →
    is_some (meaning e env) ≡ true → Meets e env →
    AnswerOffers (made_listing g x y e) e env
offers-answer g x y (fun1 false Fun.ToRelation f) o s env t h m = let r = there (meaning f env) Fun.ToRelation h in
    relation-offers (type_of f g) x f env r.0 r.1 (λ z q. s.0 z q env t r.0 r.1) m.0
offers-answer g x y (fun1 false Fun.Defined f) o s env t h m = let r = there (meaning f env) Fun.Defined h in
    defined-offers (type_of f g) x f env r.0 r.1 (λ z q. s.0 z q env t r.0 r.1) m.0
offers-answer g x y (node_ex false (word Fun.PreImage) (more_exs f (more_exs b no_exs))) o s env t h m = let r = both-there
    (meaning f env) (meaning b env) Fun.PreImage h in
    image-offers (type_of f g) x f b env r.0 r.1 o.1.0 r.2 r.3 (λ z q. s.0 z q env t r.0 r.2) m.0 m.1.0
offers-answer g x y (fun1 false Fun.Participants p) o s env t h m = let r = there (meaning p env) Fun.Participants h in
    participants-offers (type_of p g) x y p env r.0 r.1 (λ z q. s.0 z q env t r.0 r.1) m.0
offers-answer g x y (node_ex false function_literal es) o s env t h m = function-literal x es env o h m
offers-answer g x y (node_ex false partition_literal es) o s env t h m = partition-literal x es env o h m
offers-answer g x y (fun1 false Fun.ToSet (node_ex false matrix_literal es)) o s env t h m =
    set-made x matrix_literal list_value (λ xs. refl) (λ xs. ap sorted_once (to_list-of_list xs)) refl refl es env o.0 h m.0
offers-answer g x y (fun1 false Fun.ToSet (node_ex false mset_literal es)) o s env t h m =
    set-made x mset_literal mset_of (λ xs. refl)
    (λ xs. ap sorted_once (to_list-of_list (sorted xs))
    ∙ one-set (sorted xs) xs (same-members (sorted xs) xs (count-sorted xs))) refl refl es env o.0 h m.0
offers-answer g x y (matrix_ex es d) o s env t h m = matrix-offers x es d env o.0 h m.0
offers-answer g x y _ o s env t h m = tt

-- ---- results

range-answer : (o : Option Ty) (x : Text) (f : Ex) (env : Env) →
    ((v : Value) (t : Ty) → o ≡ Some t → meaning f env ≡ Some v → IsTrue (is_of_type t env v)) →
    AnswerKeeps (of_function o (λ t u. fun1 false Fun.ToSet (comp_ex (component_of u 2 (name_ex x)) (from (name_pat x) f no_gens))))
    (fun1 false Fun.Range f) env
range-answer (Some (compound2 a_function t u)) x f env h = λ m. (
  go (meaning f env) refl,
  ((m.0, each-in-any (meaning f env) _ (λ p. (tt, tt))), tt),
)
  where
    At : Value → Option (List Value)
    At p = option_map (λ w. w ∷ []) (meaning (component_of u 2 (name_ex x)) (behind x p env))

    go : (o : Option Value) → meaning f env ≡ o → value_of_node (word Fun.Range) (o ∷ []) ≡
        value_of_node (word Fun.ToSet) (option_map list_value (and_then (meaning f env) (λ s. collect (items_of s) At)) ∷ [])
    go None j = sym (ap (λ o. value_of_node (word Fun.ToSet) (option_map list_value (and_then o (λ s. collect (items_of s) At)) ∷ [])) j)
    go (Some v) j =
        sym (ap (λ o. value_of_node (word Fun.ToSet) (option_map list_value (and_then o (λ s. collect (items_of s) At)) ∷ [])) j
        ∙ ap (λ o. value_of_node (word Fun.ToSet) (option_map list_value o ∷ []))
        (collect-map to_of (items_of v) At
        (each-map (items_of v) _ _ (λ p q. ap (option_map (λ w. w ∷ [])) (second-means x t u env p q))
        (pairs-of t u env v (h v (compound2 a_function t u) refl j))))
        ∙ ap (λ l. Some (set_of l)) (to_list-of_list (map to_of (items_of v))))
range-answer _ x f env h = tt

set-answer : (g : Names Ty) (x : Text) (e : Ex) → SoundOperands g e → (env : Env) → Typed g env → AnswerKeeps (range_as_set g x e) e env
set-answer g x (fun1 false Fun.Range f) s env t = range-answer (type_of f g) x f env (λ v z q j. s.0 z q env t v j)
set-answer g x _ s env t = tt

-- Terms made of functions and partitions, and literals.
pub made-listings : MadeListingsList
made-listings = record {
  offers = λ g x y e l q o s env t h m. subst (λ z. AnswerOffers z e env) q (offers-answer g x y e o s env t h m);
  results = λ g x e f q o s env t. fires (range_as_set g x e) e f env (set-answer g x e s env t) q;
}
