-- The tables of a member, as code finds them layer by layer.
use Rattle.std.proofs.Common.{◌≡◌, refl, sym, ap, ◌∙◌, subst, ℕ, true, false, List, [], ◌∷◌, map, length, get_or, Option, Some, None, option_map}
use Rattle.std.specs.List.{list_all}
use Rattle.ess_semantics.specs.declared.words.ReprKind.{ReprKind}
use Rattle.ess_semantics.specs.Lists.{each_of}
use Rattle.ess_semantics.specs.Values.{Value, items_of}
use Rattle.ess_semantics.specs.Trees as pure
use Rattle.ess_semantics.specs.Trees.{repr, no_reprs, more_reprs}
use Rattle.ess_semantics.specs.Choice.{reprs_of}
use Rattle.ess_semantics.specs.Domains.{Domain}
use Rattle.ess_semantics.specs.Membership.{member}
use Rattle.ess_semantics.specs.Tables.{Tables}
use Rattle.ess_semantics.specs.Cells.{Axes}
use Rattle.ess_semantics.specs.Declarations.{axes_of}
use Rattle.ess_semantics.specs.Representations.{layer}
use Rattle.ess_semantics.specs.Canonical.{tables_of_value}
use Rattle.ess_semantics.specs.OneLayer.{inner_values, layer_tables}
use Rattle.ess_core.specs.declared.representations.Repr.{Repr}
use Rattle.ess_core.specs.declared.representations.Repr.TheViews.{out-Repr}
use Rattle.ess_core.specs.declared.tables.Table.{Table}
use Rattle.ess_core.specs.declared.values.Val.{Val}
use Rattle.ess_core.specs.TreeViews.{pure_repr}
use Rattle.ess_core.specs.TableViews.{pure_table}
use Rattle.ess_core.specs.ValueViews.{pure_val}
use Rattle.ess_core.proofs.RepresentationEquations.{pure_repr_is}
use Rattle.ess_eval_domains.specs.declared.closed.Closed.{Closed}
use Rattle.ess_eval_domains.specs.ClosedViews.{pure_closed}
use Rattle.ess_repr_laws.specs.CanonicalTables.{is_compound}
use Rattle.ess_repr_laws.specs.Rooms.{Covered, Roomy, AllRoomy}
use Rattle.ess_repr_layers_laws.specs.LayerParts.{children_of}
use Rattle.ess_repr_layers_laws.specs.LayerCalls.{TablesReady}
use Rattle.ess_repr_layers_laws.specs.Components.{tables_of_components, members_each}
use Rattle.ess_repr_layers_laws.proofs.Compounds.{compound-down}
use Rattle.ess_repr_layers_laws.proofs.LayerSteps.{LayerDown, no-parts, no-tables, tables-made, alone-made-down}
use Rattle.ess_repr_tables.specs.SlotViews.{pure_tables}
use Rattle.ess_translate_layers.proofs.ComponentRows.{trees}

-- The tables of a member of a domain.
abbrev asked : pure.Repr → Domain → Value → Option (List Table) → Type 0
asked r d v o = Roomy r d → member d v ≡ true → option_map (map pure_table) o ≡ tables_of_value r d v

whole : (x : Repr) (d : Domain) (v : Value) (o : Option (List Table)) → asked (repr (out-Repr x).kind (trees (out-Repr x).children)) d v o →
    asked (pure_repr x) d v o
whole x d v o f = subst (λ r. asked r d v o) (sym (pure_repr_is x)) f

pub components_made : (x : Repr) (d : Closed) (v : Val) (es : List Closed) (is : List Val) (o : Option (List Table)) →
    true ≡ is_compound (out-Repr x).kind →
    map pure_closed es ≡ children_of (out-Repr x).kind (pure_closed d) → map pure_val is ≡ items_of (pure_val v) →
    (AllRoomy (reprs_of (map pure_repr (out-Repr x).children)) (map pure_closed es) →
    members_each (map pure_closed es) (map pure_val is) ≡ true →
    option_map (map pure_table) o ≡ tables_of_components (reprs_of (map pure_repr (out-Repr x).children)) (map pure_closed es)
    (map pure_val is)) →
    Roomy (pure_repr x) (pure_closed d) → member (pure_closed d) (pure_val v) ≡ true →
    option_map (map pure_table) o ≡ tables_of_value (pure_repr x) (pure_closed d) (pure_val v)
components_made x d v es is o c p q f =
    whole x (pure_closed d) (pure_val v) o
    (λ room m. compound-down (out-Repr x).kind (trees (out-Repr x).children) (pure_closed d) (pure_val v) (option_map (map pure_table) o)
    (sym c) room m
    (subst (λ us. AllRoomy (trees (out-Repr x).children) (children_of (out-Repr x).kind (pure_closed d)) →
    members_each (children_of (out-Repr x).kind (pure_closed d)) us ≡ true →
    option_map (map pure_table) o ≡ tables_of_components (trees (out-Repr x).children) (children_of (out-Repr x).kind (pure_closed d)) us) q
    (subst (λ ds. AllRoomy (trees (out-Repr x).children) ds → members_each ds (map pure_val is) ≡ true →
    option_map (map pure_table) o ≡ tables_of_components (trees (out-Repr x).children) ds (map pure_val is)) p f)))

pub layer_made : (x : Repr) (d : Closed) (v : Val) (es : List Closed) (o : Option (List Table)) → false ≡ is_compound (out-Repr x).kind →
    map pure_closed es ≡ children_of (out-Repr x).kind (pure_closed d) →
    (is_compound (out-Repr x).kind ≡ false → map pure_closed es ≡ children_of (out-Repr x).kind (pure_closed d) →
    Roomy (repr (out-Repr x).kind (reprs_of (map pure_repr (out-Repr x).children))) (pure_closed d) →
    member (pure_closed d) (pure_val v) ≡ true →
    option_map (map pure_table) o ≡ tables_of_value (repr (out-Repr x).kind (reprs_of (map pure_repr (out-Repr x).children)))
    (pure_closed d) (pure_val v)) →
    Roomy (pure_repr x) (pure_closed d) → member (pure_closed d) (pure_val v) ≡ true →
    option_map (map pure_table) o ≡ tables_of_value (pure_repr x) (pure_closed d) (pure_val v)
layer_made x d v es o c p f = whole x (pure_closed d) (pure_val v) o (f (sym c) p)

-- ---- one child over one domain

-- A list of one item.
pub only-one : {A : Type 0} (xs : List A) (e x : A) → length xs ≡ 1 → x ≡ get_or xs 0 e → xs ≡ x ∷ []
only-one [] e x h is = cc
only-one (y ∷ []) e x h is = ap (λ z. z ∷ []) (sym is)
only-one (y ∷ z ∷ xs) e x h is = cc

pub only_made : (k : ReprKind) (rs : List Repr) (x e : Repr) (d c b : Closed) (es : List Closed) (v : Val) (o : Option (List Table)) →
    length rs ≡ 1 → length es ≡ 1 →
    x ≡ get_or rs 0 e → c ≡ get_or es 0 b →
    (is_compound k ≡ false → children_of k (pure_closed d) ≡ pure_closed c ∷ [] →
    Roomy (repr k (more_reprs (pure_repr x) no_reprs)) (pure_closed d) →
    member (pure_closed d) (pure_val v) ≡ true → option_map (map pure_table) o ≡ tables_of_value
    (repr k (more_reprs (pure_repr x) no_reprs)) (pure_closed d) (pure_val v)) →
    is_compound k ≡ false → map pure_closed es ≡ children_of k (pure_closed d) →
    Roomy (repr k (reprs_of (map pure_repr rs))) (pure_closed d) →
    member (pure_closed d) (pure_val v) ≡ true → option_map (map pure_table) o ≡ tables_of_value (repr k (reprs_of (map pure_repr rs)))
    (pure_closed d) (pure_val v)
only_made k rs x e d c b es v o h j is js f simple p =
    subst (λ l. asked (repr k (reprs_of (map pure_repr l))) (pure_closed d) (pure_val v) o) (sym (only-one rs e x h is))
    (f simple (sym p ∙ ap (map pure_closed) (only-one es b c j js)))

-- Not one child over one domain.
abbrev pub NotOne : List Repr → List Closed → Type 0
NotOne rs es = length rs ≡ 1 → length es ≡ 1 → ⊥

-- Then there is no only child.
pub many-none : (k : ReprKind) (rs : List Repr) (es : List Closed) (d : Domain) → NotOne rs es → map pure_closed es ≡ children_of k d →
    (r : pure.Repr) (e : Domain) → reprs_of (map pure_repr rs) ≡ more_reprs r no_reprs → children_of k d ≡ e ∷ [] → ⊥
many-none k rs es d n p r e q only = go rs es n q (p ∙ only)
  where
    go : (rs : List Repr) (es : List Closed) → NotOne rs es → reprs_of (map pure_repr rs) ≡ more_reprs r no_reprs →
        map pure_closed es ≡ e ∷ [] → ⊥
    go [] es n q w = cc
    go (x ∷ []) [] n q w = cc
    go (x ∷ []) (c ∷ []) n q w = n refl refl
    go (x ∷ []) (c ∷ b ∷ es) n q w = cc
    go (x ∷ y ∷ rs) es n q w = cc

made : (k : ReprKind) (rs : List Repr) (d : Closed) (es : List Closed) (v : Val) (ass : List Axes) (o : Option (List Table)) →
    NotOne rs es →
    LayerDown k (pure_closed d) (pure_val v) ass [] (option_map (map pure_table) o) → is_compound k ≡ false →
    map pure_closed es ≡ children_of k (pure_closed d) →
    asked (repr k (reprs_of (map pure_repr rs))) (pure_closed d) (pure_val v) o
made k rs d es v ass o n l simple p room m =
    alone-made-down k (reprs_of (map pure_repr rs)) (pure_closed d) (pure_val v) ass (option_map (map pure_table) o) simple room
    (many-none k rs es (pure_closed d) n p) l

module _ (k : ReprKind) (rs : List Repr) (d : Closed) (es : List Closed) (v : Val) (ass : List Axes) (inner : List (List Table))
    (o : Option (List Table)) (none : inner ≡ [])
    (l : (qs : pure.Reprs) → is_compound k ≡ false → Covered (repr k qs) (pure_closed d) →
    TablesReady k qs (pure_closed d) (pure_val v) ass (map pure_tables inner) →
    option_map (map pure_table) o ≡ layer_tables (repr k qs) (pure_closed d) (pure_val v) (map pure_tables inner))
    (simple : is_compound k ≡ false) (p : map pure_closed es ≡ children_of k (pure_closed d))
    (room : Roomy (repr k (reprs_of (map pure_repr rs))) (pure_closed d))
    (m : member (pure_closed d) (pure_val v) ≡ true) where
  answer : LayerDown k (pure_closed d) (pure_val v) ass [] (option_map (map pure_table) o)
  answer = subst (λ i. LayerDown k (pure_closed d) (pure_val v) ass (map pure_tables i) (option_map (map pure_table) o)) none l

  pub other_reprs : (length rs ≡ 1 → ⊥) → option_map (map pure_table) o ≡ tables_of_value (repr k (reprs_of (map pure_repr rs)))
      (pure_closed d) (pure_val v)
  other_reprs h = made k rs d es v ass o (λ i j. h i) answer simple p room m

  pub other_parts : (length es ≡ 1 → ⊥) → option_map (map pure_table) o ≡ tables_of_value (repr k (reprs_of (map pure_repr rs)))
      (pure_closed d) (pure_val v)
  other_parts h = made k rs d es v ass o (λ i j. h j) answer simple p room m

-- ---- the layer with its child

module _ (k : ReprKind) (x : Repr) (d c : Closed) (v : Val) where
  pub child_no_parts : (is_compound k ≡ false → None ≡ option_map (λ l. inner_values l (pure_val v)) (layer k (pure_closed d))) →
      is_compound k ≡ false → children_of k (pure_closed d) ≡ pure_closed c ∷ [] →
      Roomy (repr k (more_reprs (pure_repr x) no_reprs)) (pure_closed d) →
      member (pure_closed d) (pure_val v) ≡ true → None ≡ tables_of_value (repr k (more_reprs (pure_repr x) no_reprs)) (pure_closed d)
      (pure_val v)
  child_no_parts f simple only room m = no-parts k (pure_repr x) (pure_closed d) (pure_closed c) (pure_val v) simple room m only None f

  pub child_no_tables : (vs : List Val) →
      (is_compound k ≡ false → Some (map pure_val vs) ≡ option_map (λ l. inner_values l (pure_val v)) (layer k (pure_closed d))) →
      (Roomy (pure_repr x) (pure_closed c) → list_all (member (pure_closed c)) (map pure_val vs) ≡ true →
      None ≡ each_of (map pure_val vs) (tables_of_value (pure_repr x) (pure_closed c))) →
      is_compound k ≡ false → children_of k (pure_closed d) ≡ pure_closed c ∷ [] →
      Roomy (repr k (more_reprs (pure_repr x) no_reprs)) (pure_closed d) →
      member (pure_closed d) (pure_val v) ≡ true → None ≡ tables_of_value (repr k (more_reprs (pure_repr x) no_reprs)) (pure_closed d)
      (pure_val v)
  child_no_tables vs f g simple only room m = no-tables k (pure_repr x) (pure_closed d) (pure_closed c) (pure_val v) simple room m only
      (map pure_val vs) f None g

  pub child_made : (vs : List Val) (inner : List (List Table)) (ass : List Axes) (o : Option (List Table)) →
      (is_compound k ≡ false → Some (map pure_val vs) ≡ option_map (λ l. inner_values l (pure_val v)) (layer k (pure_closed d))) →
      (Roomy (pure_repr x) (pure_closed c) → list_all (member (pure_closed c)) (map pure_val vs) ≡ true →
      Some (map pure_tables inner) ≡ each_of (map pure_val vs) (tables_of_value (pure_repr x) (pure_closed c))) →
      ass ≡ axes_of (pure_repr x) (pure_closed c) →
      ((qs : pure.Reprs) → is_compound k ≡ false → Covered (repr k qs) (pure_closed d) →
      TablesReady k qs (pure_closed d) (pure_val v) ass (map pure_tables inner) →
      option_map (map pure_table) o ≡ layer_tables (repr k qs) (pure_closed d) (pure_val v) (map pure_tables inner)) →
      is_compound k ≡ false → children_of k (pure_closed d) ≡ pure_closed c ∷ [] →
      Roomy (repr k (more_reprs (pure_repr x) no_reprs)) (pure_closed d) →
      member (pure_closed d) (pure_val v) ≡ true → option_map (map pure_table) o ≡ tables_of_value
      (repr k (more_reprs (pure_repr x) no_reprs)) (pure_closed d) (pure_val v)
  child_made vs inner ass o f g a l simple only room m =
      tables-made k (pure_repr x) (pure_closed d) (pure_closed c) (pure_val v) simple room m only (map pure_val vs) f
      (map pure_tables inner) ass (option_map (map pure_table) o) g a l
