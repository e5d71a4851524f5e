-- What comes of a constraint, or a number, that speaks of nested sets: over tables it is a tree over views that means the same; rules lead
-- to one that means it too, which is over tables alone where nothing abstract is left of it, and nests no deeper than names are taken; and
-- what is written for that one says it over the tables of the model.
use Rattle.std.proofs.Common.{◌≡◌, refl, sym, ap, ◌∙◌, subst, ℕ, suc, ◌+◌, ◌≤◌, ◌<◌, ◌^◌, Bool, true, false, List, [], ◌++◌, length, ℤ, Option, Some, None, arith}
use Rattle.std.specs.List.{list_all, list_any}
use Rattle.ess_semantics.specs.Order.{same_int}
use Rattle.ess_semantics.specs.Values.{Text}
use Rattle.ess_semantics.specs.Names.{Names}
use Rattle.ess_semantics.specs.Trees.{Ex, Stm}
use Rattle.ess_semantics.specs.Refined.{is_refined}
use Rattle.ess_semantics.specs.Constants.{constants_of}
use Rattle.ess_semantics.specs.Occurrences.{parts_of}
use Rattle.ess_semantics.specs.Tables.{Table}
use Rattle.ess_semantics.specs.Meaning.{Env, meaning, is_true}
use Rattle.ess_semantics.specs.Assignments.{Assignment, env_of}
use Rattle.ess_semantics.specs.Plans.{Options, plans}
use Rattle.ess_semantics.specs.ModelTrees.{Model, all_decls}
use Rattle.ess_semantics.specs.ModelMeaning.{model_value}
use Rattle.ess_grammar.specs.Models.{Scope}
use Rattle.conjure_laws.specs.Premises.{Instance}
use Rattle.conjure_laws.specs.ModelPremises.{Canonical, spelled}
use Rattle.conjure_laws.specs.Views.{over_tables}
use Rattle.conjure_model_laws.specs.Shown.{Shows, shows_of}
use Rattle.conjure_model_laws.specs.IsBuiltFrom.{constraint_tree}
use Rattle.conjure_model_laws.specs.Printed.{binders}
use Rattle.ess_refine_laws.specs.SpellingEnds.{numbers_of_tree}
use Rattle.ess_flat_models_laws.specs.FlatSpecifications.{scalar_mark}
use Rattle.ess_bare_written_laws.specs.Laws.{IsEndedTree, EndedTreesAreWritten}
use Rattle.ess_seen_laws.specs.Seen.{Kind, counted_axes}
use Rattle.ess_depth_laws.specs.Laws.{DepthsAreBounded}
use Rattle.ess_mixed_models_laws.specs.ess_setwise_laws.Setwise.{is_mark, setwise_mark}
use Rattle.ess_mixed_models_laws.specs.ess_setwise_laws.Laws.{none, IsSeenOverTables, SetwiseTreesAreSeen}
use Rattle.conjure_modelling.specs.ess_rules.Ruled.{IsRuled}
use Rattle.conjure_modelling.specs.ess_refine.Chains.{Leads}
use Rattle.conjure_modelling.specs.ess_model_trees.Written.{written_for, next_behind}
use Rattle.conjure_modelling.specs.ess_model_written.RulesWritten.{ConstraintComes}
use Rattle.conjure_standing_laws.specs.SeenLaws.{IsSeenWhole, StaysSeen, SeenTreesStaySeen}
use Rattle.conjure_standing_laws.specs.SetwiseLaws.{HaveSets, SetwiseRulesStand}

pub mark-is : (o : Option Bool) → is_mark true o ≡ true → o ≡ Some true
mark-is (Some true) q = refl
mark-is (Some false) q = cc
mark-is None q = cc

few-names : (j t : ℕ) → j < 2 ^ 62 → t ≤ 2 ^ 62 → suc (j + t) < 2 ^ 64
few-names j t p q = omega (arith, p, q)

pub enough : (n b : ℕ) → n + b ≤ 2 ^ 62 → n + b ≤ 2 ^ 64
enough n b p = omega (arith, p)

weaker : (k : ℕ) → k < 2 ^ 62 → k ≤ 2 ^ 64
weaker k p = omega (arith, p)

module _ (stay : SeenTreesStaySeen) (written : EndedTreesAreWritten) (seen : SetwiseTreesAreSeen) (depths : DepthsAreBounded)
    (S : List Stm) (o : Options) (E : Model) (sets : Text → Option Kind) (cells : Text → Option (Bool × List ℕ))
    (H : HaveSets S o E sets cells)
    (e : Ex) (m : Bool) (t : setwise_mark (scalar_mark (plans S o)) sets e ≡ Some m) (low : (shows_of S o).next + binders e ≤ 2 ^ 62)
    (taken : List Text) (few : length taken ≤ 2 ^ 62) where
  abbrev sh : Shows
  sh = shows_of S o

  abbrev old : Ex
  old = constraint_tree sh e

  asked : IsSeenOverTables sh (scalar_mark (plans S o)) sets cells e m
  asked = seen sh (scalar_mark (plans S o)) sets cells H.shown e m t (enough sh.next (binders e) low)

  whole : IsSeenWhole cells (next_behind sh e) old m
  whole = record {
    seen = asked.seen;
    named = record { scoped = asked.scoped; names = asked.names };
  }

  module _ (j : ℕ) (last : Ex) (leads : Leads IsRuled (next_behind sh e) [] old last j) (top : j < 2 ^ 62)
      (refined : is_refined last ≡ true) where
    stays : StaysSeen cells j old last m
    stays = stay cells (next_behind sh e) j old last m whole leads (weaker j top)

    ready : IsEndedTree (counted_axes cells) taken last m
    ready = record {
      ended = stays.ended refined;
      unbound = none;
      around = none;
      ranging = none;
      scoped = stays.whole.named.scoped;
      depth = j;
      nests = depths.by_reserved j none none none last stays.whole.named.scoped stays.whole.named.names;
      few = few-names j (length taken) top few;
    }

    -- The rule is worth what the constraint is.
    means : (p a : Assignment) (q c : Names Table) → Instance S o p q → Canonical S o p a c →
        model_value (all_decls E) (q ++ c) (written_for taken last) ≡ meaning e (env_of S p a)
    means p a q c I C =
        let env : Env = over_tables S p (q ++ c) in
        let met = H.met p a q c I C in
        written.value (counted_axes cells) taken last m ready (all_decls E) H.declared (q ++ c) env refl
        ∙ sym (stays.kept env refl (H.filled p a q c I C) (asked.meets env met) (asked.valued env (H.scalars p a q c I C) met)).0
        ∙ asked.means (env_of S p a) env (H.names p a q c I C) (H.values p a q c I C)

    abbrev isc : ℤ → Bool
    isc z = list_any (same_int z) (constants_of S)

    spells : list_all isc (numbers_of_tree e) ≡ true → spelled S (parts_of (written_for taken last)) ≡ true
    spells h =
        written.spells (counted_axes cells) taken last m ready isc refl refl
        (stays.spells isc refl refl refl (asked.spells isc H.spells h))

  -- What comes of it is worth what it is.
  pub worth-of : (s : Scope) (r : Ex) → ConstraintComes s taken sh e (Some r) → (p a : Assignment) (q c : Names Table) →
      Instance S o p q → Canonical S o p a c → model_value (all_decls E) (q ++ c) r ≡ meaning e (env_of S p a)
  worth-of s r c p a q d I C =
      let z = c.1.0 in
      subst (λ r. model_value (all_decls E) (q ++ d) r ≡ meaning e (env_of S p a)) (sym z.writes)
      (means c.0 z.last z.leads z.few z.refined p a q d I C)

  -- And it spells constants, where that does.
  pub spells-of : (s : Scope) (r : Ex) → ConstraintComes s taken sh e (Some r) →
      list_all (λ n. list_any (same_int n) (constants_of S)) (numbers_of_tree e) ≡ true → spelled S (parts_of r) ≡ true
  spells-of s r c h =
      let z = c.1.0 in subst (λ r. spelled S (parts_of r) ≡ true) (sym z.writes) (spells c.0 z.last z.leads z.few z.refined h)

-- From the laws of trees over views.
pub setwise-rules-by : SeenTreesStaySeen → EndedTreesAreWritten → SetwiseTreesAreSeen → DepthsAreBounded → SetwiseRulesStand
setwise-rules-by stay written seen depths S o E sets cells H e t low taken few s r c =
    let u = mark-is (setwise_mark (scalar_mark (plans S o)) sets e) t in (
      λ p a q d I C. ap is_true (worth-of stay written seen depths S o E sets cells H e true u low taken few s r c p a q d I C),
      λ h. spells-of stay written seen depths S o E sets cells H e true u low taken few s r c h,
    )
