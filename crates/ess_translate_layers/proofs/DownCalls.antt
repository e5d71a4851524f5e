-- The steps downwards, by what the calls answer: each answer is an option, and is known to be nothing or something.
use Rattle.std.proofs.Common.{◌≡◌, sym, subst, ℕ, ◌+◌, ◌<◌, ◌≤◌, true, false, List, [], ◌∷◌, ◌++◌, map, length, get_or, Option, Some, None, option_map}
use Rattle.std.specs.List.{list_all}
use Rattle.ess_semantics.specs.declared.words.ReprKind.{ReprKind}
use Rattle.ess_semantics.specs.Lists.{each_of}
use Rattle.ess_semantics.specs.Trees as pure
use Rattle.ess_semantics.specs.Trees.{repr, no_reprs, more_reprs}
use Rattle.ess_semantics.specs.Choice.{reprs_of}
use Rattle.ess_semantics.specs.Domains.{Domain}
use Rattle.ess_semantics.specs.Membership.{member}
use Rattle.ess_semantics.specs.Cells.{Axes}
use Rattle.ess_semantics.specs.Declarations.{axes_of}
use Rattle.ess_semantics.specs.Representations.{layer}
use Rattle.ess_semantics.specs.Canonical.{tables_of_value}
use Rattle.ess_semantics.specs.OneLayer.{inner_values, layer_tables}
use Rattle.ess_core.specs.declared.representations.Repr.{Repr}
use Rattle.ess_core.specs.declared.representations.Repr.TheViews.{out-Repr}
use Rattle.ess_core.specs.declared.tables.Table.{Table}
use Rattle.ess_core.specs.declared.values.Val.{Val}
use Rattle.ess_core.specs.TreeViews.{pure_repr}
use Rattle.ess_core.specs.TableViews.{pure_table}
use Rattle.ess_core.specs.ValueViews.{pure_val}
use Rattle.ess_eval_domains.specs.declared.closed.Closed.{Closed}
use Rattle.ess_eval_domains.specs.ClosedViews.{pure_closed}
use Rattle.ess_repr_laws.specs.CanonicalTables.{is_compound}
use Rattle.ess_repr_laws.specs.Rooms.{Covered, Roomy, AllRoomy}
use Rattle.ess_repr_layers_laws.specs.LayerParts.{children_of}
use Rattle.ess_repr_layers_laws.specs.LayerCalls.{TablesReady}
use Rattle.ess_repr_layers_laws.specs.Components.{tables_of_components, members_each}
use Rattle.ess_repr_tables.specs.SlotViews.{pure_tables}
use Rattle.ess_translate_layers.proofs.ComponentRows.{trees}
use Rattle.ess_translate_layers.proofs.ComponentLoops.{TablesOfFirst, tables_more, tables_stop, tables_short, tables_few}
use Rattle.ess_translate_layers.proofs.DownLoops.{TablesSoFar, each_stop}
use Rattle.ess_translate_layers.proofs.DownSteps.{layer_made, child_made, child_no_tables}

-- What is answered on a member.
abbrev pub Answers : pure.Repr → Closed → Val → Option (List Table) → Type 0
Answers r d v o = Roomy r (pure_closed d) → member (pure_closed d) (pure_val v) ≡ true →
    option_map (map pure_table) o ≡ tables_of_value r (pure_closed d) (pure_val v)

-- What is answered on several.
abbrev pub AnswersEach : Repr → Closed → List Val → Option (List (List Table)) → Type 0
AnswersEach x c vs o =
    Roomy (pure_repr x) (pure_closed c) → list_all (member (pure_closed c)) (map pure_val vs) ≡ true →
    option_map (map pure_tables) o ≡ each_of (map pure_val vs) (tables_of_value (pure_repr x) (pure_closed c))

-- ---- components

pub next_found : (rs : List Repr) (ds : List Closed) (vs : List Val) (i : ℕ) (x e : Repr) (d b : Closed) (v w : Val)
    (all all' ts : List Table) (o : Option (List Table)) →
    i < length rs → i < length ds → i < length vs → x ≡ get_or rs i e → d ≡ get_or ds i b → v ≡ get_or vs i w → o ≡ Some ts →
    Answers (pure_repr x) d v o → all' ≡ all ++ ts →
    TablesOfFirst rs ds vs i all → TablesOfFirst rs ds vs (i + 1) all'
next_found rs ds vs i x e d b v w all all' ts o h k m is js ks q f g s =
    tables_more rs ds vs i x e d b v w all h k m is js ks all' ts (subst (Answers (pure_repr x) d v) q f) g s

pub none_found : (rs : List Repr) (ds : List Closed) (vs : List Val) (i : ℕ) (x e : Repr) (d b : Closed) (v w : Val) (all : List Table)
    (o : Option (List Table)) →
    i < length rs → i < length ds → i < length vs → x ≡ get_or rs i e → d ≡ get_or ds i b → v ≡ get_or vs i w → o ≡ None →
    Answers (pure_repr x) d v o →
    TablesOfFirst rs ds vs i all → AllRoomy (trees rs) (map pure_closed ds) → members_each (map pure_closed ds) (map pure_val vs) ≡ true →
    None ≡ tables_of_components (trees rs) (map pure_closed ds) (map pure_val vs)
none_found rs ds vs i x e d b v w all o h k m is js ks q f s room inside =
    tables_stop rs ds vs i x e d b v w all h k m is js ks (subst (Answers (pure_repr x) d v) q f) s room inside

-- ---- the whole

pub layer_found : (x : Repr) (d : Closed) (v : Val) (es fs : List Closed) (rs : List Repr) (o : Option (List Table)) →
    rs ≡ (out-Repr x).children → fs ≡ es →
    false ≡ is_compound (out-Repr x).kind → map pure_closed es ≡ children_of (out-Repr x).kind (pure_closed d) →
    (is_compound (out-Repr x).kind ≡ false → map pure_closed fs ≡ children_of (out-Repr x).kind (pure_closed d) →
    Answers (repr (out-Repr x).kind (reprs_of (map pure_repr rs))) d v o) →
    Answers (pure_repr x) d v o
layer_found x d v es fs rs o p q c e f =
    layer_made x d v es o c e
    (subst (λ es. is_compound (out-Repr x).kind ≡ false → map pure_closed es ≡ children_of (out-Repr x).kind (pure_closed d) →
    Answers (repr (out-Repr x).kind (reprs_of (map pure_repr (out-Repr x).children))) d v o) q
    (subst (λ rs. is_compound (out-Repr x).kind ≡ false → map pure_closed fs ≡ children_of (out-Repr x).kind (pure_closed d) →
    Answers (repr (out-Repr x).kind (reprs_of (map pure_repr rs))) d v o) p f))

-- ---- one child

module _ (k : ReprKind) (x : Repr) (d c : Closed) (v : Val) (ov : Option (List Val)) (vs us : List Val) (oi : Option (List (List Table)))
    (is : ov ≡ Some vs) (same : us ≡ vs) (f : is_compound k ≡ false → option_map (map pure_val) ov ≡ option_map
    (λ l. inner_values l (pure_val v)) (layer k (pure_closed d)))
    (g : AnswersEach x c us oi) where
  there : is_compound k ≡ false → Some (map pure_val vs) ≡ option_map (λ l. inner_values l (pure_val v)) (layer k (pure_closed d))
  there = subst (λ o. is_compound k ≡ false → option_map (map pure_val) o ≡ option_map (λ l. inner_values l (pure_val v))
      (layer k (pure_closed d))) is f

  pub child_found : (inner : List (List Table)) (ass bs : List Axes) (o : Option (List Table)) → oi ≡ Some inner → bs ≡ ass →
      ass ≡ axes_of (pure_repr x) (pure_closed c) →
      ((qs : pure.Reprs) → is_compound k ≡ false → Covered (repr k qs) (pure_closed d) →
      TablesReady k qs (pure_closed d) (pure_val v) bs (map pure_tables inner) →
      option_map (map pure_table) o ≡ layer_tables (repr k qs) (pure_closed d) (pure_val v) (map pure_tables inner)) →
      is_compound k ≡ false → children_of k (pure_closed d) ≡ pure_closed c ∷ [] →
      Answers (repr k (more_reprs (pure_repr x) no_reprs)) d v o
  child_found inner ass bs o js t a l simple only room m =
      child_made k x d c v vs inner ass o there (subst (AnswersEach x c vs) js (subst (λ us. AnswersEach x c us oi) same g)) a
      (subst (λ bs. (qs : pure.Reprs) → is_compound k ≡ false → Covered (repr k qs) (pure_closed d) →
      TablesReady k qs (pure_closed d) (pure_val v) bs (map pure_tables inner) →
      option_map (map pure_table) o ≡ layer_tables (repr k qs) (pure_closed d) (pure_val v) (map pure_tables inner)) t l) simple only room m

  pub child_lacks : oi ≡ None → is_compound k ≡ false → children_of k (pure_closed d) ≡ pure_closed c ∷ [] →
      Roomy (repr k (more_reprs (pure_repr x) no_reprs)) (pure_closed d) →
      member (pure_closed d) (pure_val v) ≡ true → None ≡ tables_of_value (repr k (more_reprs (pure_repr x) no_reprs)) (pure_closed d)
      (pure_val v)
  child_lacks js simple only room m =
      child_no_tables k x d c v vs there (subst (AnswersEach x c vs) js (subst (λ us. AnswersEach x c us oi) same g)) simple only room m

-- ---- several members

pub each_lacks : (x : Repr) (c : Closed) (vs : List Val) (i : ℕ) (v : Val) (each : List (List Table)) (o : Option (List Table)) →
    i < length vs → v ≡ get_or vs i v → o ≡ None →
    Answers (pure_repr x) c v o → TablesSoFar (pure_repr x) (pure_closed c) vs i each → Roomy (pure_repr x) (pure_closed c) →
    list_all (member (pure_closed c)) (map pure_val vs) ≡ true → None ≡ each_of (map pure_val vs)
    (tables_of_value (pure_repr x) (pure_closed c))
each_lacks x c vs i v each o h is q f s room m =
    each_stop (pure_repr x) (pure_closed c) vs i v each h is (subst (Answers (pure_repr x) c v) q f) s room m
