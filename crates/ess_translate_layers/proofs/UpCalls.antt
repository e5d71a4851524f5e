-- The steps upwards, by what the calls answer: each answer is an option, and is known to be nothing or something.
use Rattle.std.proofs.Common.{◌≡◌, subst, ℕ, ◌+◌, ◌<◌, true, false, List, [], ◌∷◌, ◌++◌, map, length, take, drop, get_or, Option, Some, None, option_map}
use Rattle.std.specs.List.{list_all}
use Rattle.ess_semantics.specs.declared.words.ReprKind.{ReprKind}
use Rattle.ess_semantics.specs.Lists.{each_of}
use Rattle.ess_semantics.specs.Trees as pure
use Rattle.ess_semantics.specs.Trees.{repr, no_reprs, more_reprs}
use Rattle.ess_semantics.specs.Choice.{reprs_of}
use Rattle.ess_semantics.specs.Declarations.{axes_of}
use Rattle.ess_semantics.specs.Representations.{width, value_of_tables}
use Rattle.ess_semantics.specs.OneLayer.{inner_tables, layer_value}
use Rattle.ess_semantics.specs.Tidy.{over_axes}
use Rattle.ess_core.specs.declared.representations.Repr.{Repr}
use Rattle.ess_core.specs.declared.tables.Table.{Table}
use Rattle.ess_core.specs.declared.values.Val.{Val}
use Rattle.ess_core.specs.TreeViews.{pure_repr}
use Rattle.ess_core.specs.ValueViews.{pure_val}
use Rattle.ess_eval_domains.specs.declared.closed.Closed.{Closed}
use Rattle.ess_eval_domains.specs.ClosedViews.{pure_closed}
use Rattle.ess_repr_laws.specs.CanonicalTables.{is_compound}
use Rattle.ess_repr_laws.specs.Rooms.{Covered, AllCovered}
use Rattle.ess_repr_layers_laws.specs.LayerParts.{children_of, axes_below}
use Rattle.ess_repr_layers_laws.specs.Components.{values_of_components, compound_of, component_count}
use Rattle.ess_repr_tables.specs.SlotViews.{pure_tables}
use Rattle.ess_translate_layers.proofs.ComponentRows.{trees}
use Rattle.ess_translate_layers.proofs.ComponentLoops.{ValuesOfFirst, values_more}
use Rattle.ess_translate_layers.proofs.UpLoops.{ValuesSoFar, stood, each_stop}
use Rattle.ess_translate_layers.proofs.UpSteps.{compound_made, compound_none, child_made, child_no_values}

-- What is answered on tables.
abbrev pub Answers : pure.Repr → Closed → List Table → Option Val → Type 0
Answers r d ts o =
    Covered r (pure_closed d) → over_axes [] (axes_of r (pure_closed d)) (pure_tables ts) ≡ true →
    option_map pure_val o ≡ value_of_tables r (pure_closed d) (pure_tables ts) []

-- What is answered on the tables of several slots.
abbrev pub AnswersEach : Repr → Closed → List (List Table) → Option (List Val) → Type 0
AnswersEach x c ss o =
    Covered (pure_repr x) (pure_closed c) → list_all (over_axes [] (axes_of (pure_repr x) (pure_closed c))) (map pure_tables ss) ≡ true →
    option_map (map pure_val) o ≡ each_of (map pure_tables ss) (λ ts. value_of_tables (pure_repr x) (pure_closed c) ts [])

-- What is answered on components.
abbrev pub AnswersAll : List Repr → List Closed → List Table → Option (List Val) → Type 0
AnswersAll rs es ts o =
    AllCovered (reprs_of (map pure_repr rs)) (map pure_closed es) → over_axes []
    (axes_below (reprs_of (map pure_repr rs)) (map pure_closed es) []) (pure_tables ts) ≡ true →
    option_map (map pure_val) o ≡ values_of_components (reprs_of (map pure_repr rs)) (map pure_closed es) (pure_tables ts)

-- What is answered on the tables of the slots of a layer.
abbrev pub AnswersSlots : ReprKind → Closed → List Table → Option (List (List Table)) → Type 0
AnswersSlots k d ts o =
    (r : pure.Repr) → is_compound k ≡ false → Covered (repr k (more_reprs r no_reprs)) (pure_closed d) →
    over_axes [] (axes_of (repr k (more_reprs r no_reprs)) (pure_closed d)) (pure_tables ts) ≡ true →
    option_map (map pure_tables) o ≡ inner_tables k (pure_closed d) (pure_tables ts)

-- What is answered on a layer.
abbrev pub AnswersLayer : ReprKind → Closed → List Table → List Val → Option Val → Type 0
AnswersLayer k d ts vs o =
    (qs : pure.Reprs) → is_compound k ≡ false → Covered (repr k qs) (pure_closed d) →
    over_axes [] (axes_of (repr k qs) (pure_closed d)) (pure_tables ts) ≡ true →
    option_map pure_val o ≡ layer_value k (pure_closed d) (pure_tables ts) (map pure_val vs)

-- ---- components

pub next_found : (rs : List Repr) (ds : List Closed) (ts : List Table) (i : ℕ) (x e : Repr) (d b : Closed) (rest first rest' : List Table)
    (vals vals' : List Val) (n : ℕ) (v : Val) (o : Option Val) →
    i < length rs → i < length ds → x ≡ get_or rs i e → d ≡ get_or ds i b → n ≡ width (pure_repr x) → first ≡ take n rest → o ≡ Some v →
    Answers (pure_repr x) d first o →
    vals' ≡ vals ++ v ∷ [] → rest' ≡ drop n rest → ValuesOfFirst rs ds ts i rest vals → ValuesOfFirst rs ds ts (i + 1) rest' vals'
next_found rs ds ts i x e d b rest first rest' vals vals' n v o h k is js wide front q f g w s =
    values_more rs ds ts i x e d b rest first vals n h k is js wide front v vals' rest' (subst (Answers (pure_repr x) d first) q f) g w s

pub compound_found : (rs : List Repr) (d : Closed) (es : List Closed) (ts : List Table) (ov : Option (List Val)) (vs : List Val)
    (o : Option Val) → ov ≡ Some vs → AnswersAll rs es ts ov →
    (component_count (pure_closed d) ≡ length (map pure_val vs) → option_map pure_val o ≡ compound_of (pure_closed d) (map pure_val vs)) →
    (k : ReprKind) → is_compound k ≡ true → map pure_closed es ≡ children_of k (pure_closed d) →
    Answers (repr k (reprs_of (map pure_repr rs))) d ts o
compound_found rs d es ts ov vs o q f g k c p cover over = compound_made rs d es ts vs o
    (subst (AnswersAll rs es ts) q f) g k c p cover over

pub compound_lacks : (rs : List Repr) (d : Closed) (es : List Closed) (ts : List Table) (ov : Option (List Val)) → ov ≡ None →
    AnswersAll rs es ts ov →
    (k : ReprKind) → is_compound k ≡ true → map pure_closed es ≡ children_of k (pure_closed d) →
    Covered (repr k (reprs_of (map pure_repr rs))) (pure_closed d) →
    over_axes [] (axes_of (repr k (reprs_of (map pure_repr rs))) (pure_closed d)) (pure_tables ts) ≡ true →
    None ≡ value_of_tables (repr k (reprs_of (map pure_repr rs))) (pure_closed d) (pure_tables ts) []
compound_lacks rs d es ts ov q f k c p cover over = compound_none rs d es ts (subst (AnswersAll rs es ts) q f) k c p cover over

-- ---- one child

module _ (k : ReprKind) (x : Repr) (d c : Closed) (ts : List Table) (os : Option (List (List Table))) (ss us : List (List Table))
    (ov : Option (List Val))
    (is : os ≡ Some ss) (same : us ≡ ss) (f : AnswersSlots k d ts os) (g : AnswersEach x c us ov) where
  pub child_found : (vs : List Val) (o : Option Val) → ov ≡ Some vs → AnswersLayer k d ts vs o →
      is_compound k ≡ false → children_of k (pure_closed d) ≡ pure_closed c ∷ [] →
      Answers (repr k (more_reprs (pure_repr x) no_reprs)) d ts o
  child_found vs o js l simple only cover over =
      child_made k x d c ts ss vs o (subst (AnswersSlots k d ts) is f) (subst (AnswersEach x c ss) js
      (subst (λ us. AnswersEach x c us ov) same g)) l simple only cover over

  pub child_lacks : ov ≡ None → is_compound k ≡ false → children_of k (pure_closed d) ≡ pure_closed c ∷ [] →
      Covered (repr k (more_reprs (pure_repr x) no_reprs)) (pure_closed d) →
      over_axes [] (axes_of (repr k (more_reprs (pure_repr x) no_reprs)) (pure_closed d)) (pure_tables ts) ≡ true →
      None ≡ value_of_tables (repr k (more_reprs (pure_repr x) no_reprs)) (pure_closed d) (pure_tables ts) []
  child_lacks js simple only cover over =
      child_no_values k x d c ts ss (subst (AnswersSlots k d ts) is f) (subst (AnswersEach x c ss) js
      (subst (λ us. AnswersEach x c us ov) same g)) simple only cover over

-- ---- several slots

pub each_lacks : (x : Repr) (c : Closed) (ss : List (List Table)) (i : ℕ) (s us : List Table) (vals : List Val) (o : Option Val) →
    i < length ss → s ≡ get_or ss i s → us ≡ s → o ≡ None →
    Answers (pure_repr x) c us o → ValuesSoFar (pure_repr x) (pure_closed c) ss i vals → Covered (pure_repr x) (pure_closed c) →
    list_all (over_axes [] (axes_of (pure_repr x) (pure_closed c))) (map pure_tables ss) ≡ true →
    None ≡ each_of (map pure_tables ss) (stood (pure_repr x) (pure_closed c))
each_lacks x c ss i s us vals o h is same q f g cover m =
    each_stop (pure_repr x) (pure_closed c) ss i s vals h is (subst (Answers (pure_repr x) c s) q
    (subst (λ us. Answers (pure_repr x) c us o) same f)) g cover m
