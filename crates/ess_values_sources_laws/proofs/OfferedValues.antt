-- What a term offers has values where the term has: each part of each alternative's generators, and its item at each of their bindings.
use Rattle.std.proofs.Common.{◌≡◌, refl, Bool, true, false, if◌then◌else◌, List, [], ◌∷◌, Option, Some, None, option_map}
use Rattle.std.specs.Prelude.{IsTrue, is_some}
use Rattle.ess_semantics.specs.declared.words.Op1.{Op1}
use Rattle.ess_semantics.specs.declared.words.Op2.{Op2}
use Rattle.ess_semantics.specs.declared.words.Fun.{Fun}
use Rattle.ess_semantics.specs.Lists.{or_else}
use Rattle.ess_semantics.specs.Values.{Text, Value, number, truth, item, node, a_function}
use Rattle.ess_semantics.specs.Names.{Names}
use Rattle.ess_semantics.specs.Trees.{word, set_literal, mset_literal, relation_literal, matrix_literal, function_literal, partition_literal, name_pat, Ex, Exs, name_ex, node_ex, matrix_ex, comp_ex, ex1, ex2, fun1, no_exs, more_exs, no_gens, over, cond}
use Rattle.ess_semantics.specs.Types.{Ty, compound2, is_bool}
use Rattle.ess_semantics.specs.Typing.{type_of}
use Rattle.ess_semantics.specs.Operators.{as_truth, list_value}
use Rattle.ess_semantics.specs.Meaning.{Env, meaning, items_under, where_true}
use Rattle.ess_rules_laws.specs.Rules.{Unused}
use Rattle.ess_rules_laws.specs.InclusionRules.{both_sets}
use Rattle.ess_rules_laws.specs.ComponentRules.{component_of}
use Rattle.ess_rules_laws.specs.ShortSizeRules.{is_partition}
use Rattle.ess_rules_laws.specs.Listings.{Alternative, each_item, none_of, each_first, those, is_strict, listing}
use Rattle.ess_rules_laws.specs.ContainerListings.{of_function, arguments_listed, members_of_parts, made_listing}
use Rattle.ess_rules_laws.proofs.RuleAnswers.{behind}
use Rattle.ess_rules_laws.proofs.NoneOf.{none_of-more}
use Rattle.ess_refine_laws.specs.ItemsOnce.{set_of_items, items_once}
use Rattle.ess_refine_laws.specs.AllRules.{Supply, offered}
use Rattle.ess_values_along_laws.specs.Valued.{Valued, AllValued, UnderValued}
use Rattle.ess_values_along_laws.proofs.ValuesAlong.{values-along}
use Rattle.ess_rules_values_laws.proofs.ValuedAgreement.{valued-behind}
use Rattle.ess_values_terms_laws.proofs.ValuedForms.{word-valued, component-valued}
use Rattle.ess_values_terms_laws.proofs.ValuedLists.{name-valued, each-in-there}
use Rattle.ess_values_sources_laws.specs.ListedValues.{Under, AllUnder}
use Rattle.ess_values_sources_laws.specs.SourcesKeepValues.{is_set_over}

-- ---- alternatives

-- Those that are offered have values.
abbrev pub OfferUnder : Option (List Alternative) → Env → Type 0
OfferUnder None env = Unit {0}
OfferUnder (Some l) env = AllUnder l env

under-test : (c : Bool) (l : List Alternative) (env : Env) → AllUnder l env → OfferUnder (if c then Some l else None) env
under-test true l env h = h
under-test false l env h = tt

either : (o p : Option (List Alternative)) (env : Env) → OfferUnder o env → OfferUnder p env → OfferUnder (or_else o p) env
either None p env h k = k
either (Some l) p env h k = h

module _ (env : Env) where
  -- ---- literals

  -- Each item by itself.
  pub items-under : (es : Exs) → AllValued false false es env → AllUnder (each_item es) env
  items-under no_exs v = tt
  items-under (more_exs a es) v = (v.0, items-under es v.1)

  -- Each of these has values.
  abbrev AllOf : List Ex → Type 0
  AllOf [] = Unit {0}
  AllOf (b ∷ bs) = Valued false b env × AllOf bs

  none-under : (bs : List Ex) (a : Ex) → AllOf bs → Valued false a env → UnderValued (none_of bs a) env (λ here. Valued false a here)
  none-under [] a h k = k
  none-under (b ∷ bs) a h k = none_of-more (λ gs. UnderValued gs env (λ here. Valued false a here)) b a bs (none-under bs a h.1 k) (λ r. (
    (tt, ((tt, (values-along.in_places true b env h.0, (values-along.in_places true a env k, tt))), tt)),
    λ t. r,
  ))

  -- Each item where it is none of those before it.
  firsts-under : (bs : List Ex) (es : Exs) → AllOf bs → AllValued false false es env → AllUnder (each_first bs es) env
  firsts-under bs no_exs h v = tt
  firsts-under bs (more_exs a es) h v = (none-under bs a h v.0, firsts-under (a ∷ bs) es (v.0, h) v.1)

  -- ---- members of a term

  -- Without a condition.
  those-under : (x : Text) (s : Ex) → Valued false s env → Under (those x s no_gens) env
  those-under x s h = (h, each-in-there (meaning s env) _ (λ v. name-valued x v env false))

  -- Under one.
  those-where : (x : Text) (s c : Ex) → Valued false s env → ((v : Value) → Valued false c (behind x v env)) →
      Under (those x s (cond c no_gens)) env
  those-where x s c h k = (h, each-in-there (meaning s env) _ (λ v. (k v, λ t. name-valued x v env false)))

  -- That the name is in another term.
  member-behind : (x : Text) (b : Ex) → Unused x b → Valued false b env → (v : Value) →
      Valued false (ex2 true Op2.Member (name_ex x) b) (behind x v env)
  member-behind x b n k v = (tt, (name-valued x v env false, (valued-behind x v b env false n k, tt)))

  -- That it isn't.
  other-behind : (x : Text) (b : Ex) → Unused x b → Valued false b env → (v : Value) →
      Valued false (ex1 true Op1.Not (ex2 true Op2.Member (name_ex x) b)) (behind x v env)
  other-behind x b n k v = (tt, (member-behind x b n k v, tt))

  -- ---- what terms offer

  listed : (g : Names Ty) (x : Text) (t : Ex) → Unused x t → Valued false t env → OfferUnder (listing g x t) env
  listed g x (comp_ex e gs) n h = (h.1, tt)
  listed g x (node_ex false matrix_literal es) n h = items-under es h.1
  listed g x (node_ex false mset_literal es) n h = items-under es h.1
  listed g x (node_ex false set_literal es) n h = firsts-under [] es tt h.1
  listed g x (node_ex false relation_literal es) n h = firsts-under [] es tt h.1
  listed g x (ex2 false Op2.Union a b) n h = under-test (both_sets (type_of a g) (type_of b g)) _ env (
    those-under x a h.1.0,
    (those-where x b (ex1 true Op1.Not (ex2 true Op2.Member (name_ex x) a)) h.1.1.0 (other-behind x a n.0 h.1.0), tt),
  )
  listed g x (ex2 false Op2.Intersect a b) n h = under-test (both_sets (type_of a g) (type_of b g)) _ env
      (those-where x a (ex2 true Op2.Member (name_ex x) b) h.1.0 (member-behind x b n.1.0 h.1.1.0), tt)
  listed g x (ex2 false Op2.Minus a b) n h = under-test (both_sets (type_of a g) (type_of b g)) _ env
      (those-where x a (ex1 true Op1.Not (ex2 true Op2.Member (name_ex x) b)) h.1.0 (other-behind x b n.1.0 h.1.1.0), tt)
  listed g x (fun1 false Fun.ToMSet s) n h = (those-under x s h.1.0, tt)
  listed g x (fun1 false Fun.ToSet s) n h = under-test (is_strict (type_of s g)) _ env (those-under x s h.1.0, tt)
  listed g x (fun1 false Fun.Parts s) n h = under-test (is_strict (type_of s g)) _ env (those-under x s h.1.0, tt)
  listed g x _ n h = tt

  function-under : (o : Option Ty) (l : Ty → Ty → List Alternative) → ((t u : Ty) → AllUnder (l t u) env) →
      OfferUnder (of_function o (λ t u. l t u)) env
  function-under (Some (compound2 a_function t u)) l h = h t u
  function-under _ l h = tt

  first-under : (x : Text) (t : Ty) (f : Ex) → Valued false f env → Under (arguments_listed x t f no_gens) env
  first-under x t f h = (
    h,
    each-in-there (meaning f env) _
        (λ v. component-valued (is_bool (Some t)) false 1 (name_ex x) (behind x v env) (name-valued x v env false)),
  )

  made : (g : Names Ty) (x y : Text) (t : Ex) → Unused x t → Valued false t env → OfferUnder (made_listing g x y t) env
  made g x y (fun1 false Fun.ToRelation f) n h =
      function-under (type_of f g) (λ t u. those x f no_gens ∷ []) (λ t u. (those-under x f h.1.0, tt))
  made g x y (fun1 false Fun.Defined f) n h =
      function-under (type_of f g) (λ t u. arguments_listed x t f no_gens ∷ []) (λ t u. (first-under x t f h.1.0, tt))
  made g x y (node_ex false (word Fun.PreImage) (more_exs f (more_exs b no_exs))) n h =
      function-under (type_of f g)
      (λ t u. arguments_listed x t f (cond (ex2 true Op2.Eq (component_of u 2 (name_ex x)) b) no_gens) ∷ []) (λ t u. (
        (
          h.1.0,
          each-in-there (meaning f env) _ (λ v. (
            (
              tt,
              (
                component-valued (is_bool (Some u)) true 2 (name_ex x) (behind x v env) (name-valued x v env false),
                (values-along.in_places true b (behind x v env) (valued-behind x v b env false n.1.0 h.1.1.0), tt),
              ),
            ),
            λ q. component-valued (is_bool (Some t)) false 1 (name_ex x) (behind x v env) (name-valued x v env false),
          )),
        ),
        tt,
      ))
  made g x y (fun1 false Fun.Participants p) n h = under-test (is_partition (type_of p g)) (members_of_parts x y p ∷ []) env (
    (
      h.1.0,
      each-in-there (meaning p env) _ (λ v. (
        name-valued y v env false,
        each-in-there (meaning (name_ex y) (behind y v env)) _ (λ u. name-valued x u (behind y v env) false),
      )),
    ),
    tt,
  )
  made g x y (node_ex false function_literal es) n h = firsts-under [] es tt h.1
  made g x y (node_ex false partition_literal es) n h = items-under es h.1
  made g x y (fun1 false Fun.ToSet (node_ex false matrix_literal es)) n h = firsts-under [] es tt h.1.0.1
  made g x y (fun1 false Fun.ToSet (node_ex false mset_literal es)) n h = firsts-under [] es tt h.1.0.1
  made g x y (matrix_ex es d) n h = items-under es h.1
  made g x y _ n h = tt

  -- The rest is there where the condition holds.
  rest-there : (o : Option Value) (p : Option (List Value)) → as_truth o ≡ true →
      IsTrue (is_some (option_map list_value (where_true o (λ u. p)))) → IsTrue (is_some (option_map list_value p))
  rest-there (Some (truth true)) p t h = h
  rest-there (Some (truth false)) p t h = cc
  rest-there (Some (number n)) p t h = cc
  rest-there (Some (item a n)) p t h = cc
  rest-there (Some (node k vs)) p t h = cc
  rest-there None p t h = cc

  once : (y z w : Text) (t : Ex) → is_set_over t ≡ false → Valued false t env → OfferUnder (items_once y z w t) env
  once y z w (fun1 false Fun.ToSet (comp_ex e no_gens)) n h = (h.1.0.1, tt)
  once y z w (fun1 false Fun.ToSet (comp_ex e (cond c gs))) n h = (
    (
      h.1.0.1.0,
      λ t. those-under y (set_of_items e gs) (word-valued false Fun.ToSet (comp_ex e gs) env (λ v. refl) (
        rest-there (meaning c env) (items_under gs env (λ here. option_map (λ v. v ∷ []) (meaning e here))) t h.1.0.0,
        h.1.0.1.1 t,
      )),
    ),
    tt,
  )
  once y z w (fun1 false Fun.ToSet (comp_ex e (over (name_pat x) d gs))) n h = cc
  once y z w _ n h = tt

  -- What a term offers has values where the term has.
  pub offered-under : (s : Supply) (g : Names Ty) (t : Ex) → Unused s.one t → is_set_over t ≡ false → Valued false t env →
      OfferUnder (offered s g t) env
  offered-under s g t n o h = either (listing g s.one t) _ env (listed g s.one t n h)
      (either (made_listing g s.one s.other t) (items_once s.one s.other s.third t) env (made g s.one s.other t n h)
      (once s.one s.other s.third t o h))
