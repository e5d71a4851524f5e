-- Domains that differ in the numbers of attributes have tables of the same names, and the same representations fit them.
use Rattle.std.proofs.Common.{◌≡◌, refl, ap, ◌+◌, Bool, true, false, ◌&&◌, if◌then◌else◌, List, [], ◌∷◌, ◌++◌, map, codes, Some, None}
use Rattle.ess_semantics.specs.declared.words.Key.{Key}
use Rattle.ess_semantics.specs.declared.words.ReprKind.{ReprKind}
use Rattle.ess_semantics.specs.Lists.{zip, list_or_none}
use Rattle.ess_semantics.specs.Kinds.{has_key, fits, all_fit}
use Rattle.ess_semantics.specs.Trees.{Mark, Repr, Reprs, repr, no_reprs, more_reprs, Exs, no_exs, Dom, Doms, bool_dom, int_dom, name_dom, tuple_dom, record_dom, matrix_dom, set_dom, mset_dom, function_dom, relation_dom, partition_dom}
use Rattle.ess_semantics.specs.TableNames.{Named, below_child, table_names, names_of_children}
use Rattle.ess_semantics.specs.Children.{without_sizes}

-- ---- the numbers of attributes don't count

-- The two domains have tables of one name each, and the same representations.
abbrev Alike : Dom → Dom → Type 0
Alike d e = ((r : Repr) → table_names r d ≡ table_names r e) × ((r : Repr) → fits r d ≡ fits r e)

set-names : (ms : List Mark) (es fs : Exs) (d : Dom) (r : Repr) → table_names r (set_dom ms es d) ≡ table_names r (set_dom ms fs d)
set-names ms es fs d (repr ReprKind.Atom rs) = refl
set-names ms es fs d (repr ReprKind.Tuple rs) = refl
set-names ms es fs d (repr ReprKind.Rec rs) = refl
set-names ms es fs d (repr ReprKind.Matrix rs) = refl
set-names ms es fs d (repr ReprKind.Occurrence rs) = refl
set-names ms es fs d (repr ReprKind.Explicit rs) = refl
set-names ms es fs d (repr ReprKind.ExplicitVarSizeWithMarker rs) = refl
set-names ms es fs d (repr ReprKind.ExplicitVarSizeWithFlags rs) = refl
set-names ms es fs d (repr ReprKind.ExplicitVarSizeWithDummy rs) = refl
set-names ms es fs d (repr ReprKind.MSetOccurrence rs) = refl
set-names ms es fs d (repr ReprKind.MSetExplicitWithRepetition rs) = refl
set-names ms es fs d (repr ReprKind.MSetExplicitWithFlags rs) = refl
set-names ms es fs d (repr ReprKind.Function1D rs) = refl
set-names ms es fs d (repr ReprKind.Function1DPartial rs) = refl
set-names ms es fs d (repr ReprKind.FunctionND rs) = refl
set-names ms es fs d (repr ReprKind.FunctionNDPartial rs) = refl
set-names ms es fs d (repr ReprKind.FunctionAsRelation rs) = refl
set-names ms es fs d (repr ReprKind.RelationAsMatrix rs) = refl
set-names ms es fs d (repr ReprKind.RelationAsSet rs) = refl
set-names ms es fs d (repr ReprKind.PartitionOccurrence rs) = refl
set-names ms es fs d (repr ReprKind.PartitionAsSet rs) = refl

set-fits : (ms : List Mark) (es fs : Exs) (d : Dom) (r : Repr) → fits r (set_dom ms es d) ≡ fits r (set_dom ms fs d)
set-fits ms es fs d (repr ReprKind.Atom rs) = refl
set-fits ms es fs d (repr ReprKind.Tuple rs) = refl
set-fits ms es fs d (repr ReprKind.Rec rs) = refl
set-fits ms es fs d (repr ReprKind.Matrix rs) = refl
set-fits ms es fs d (repr ReprKind.Occurrence rs) = refl
set-fits ms es fs d (repr ReprKind.Explicit rs) = refl
set-fits ms es fs d (repr ReprKind.ExplicitVarSizeWithMarker rs) = refl
set-fits ms es fs d (repr ReprKind.ExplicitVarSizeWithFlags rs) = refl
set-fits ms es fs d (repr ReprKind.ExplicitVarSizeWithDummy rs) = refl
set-fits ms es fs d (repr ReprKind.MSetOccurrence rs) = refl
set-fits ms es fs d (repr ReprKind.MSetExplicitWithRepetition rs) = refl
set-fits ms es fs d (repr ReprKind.MSetExplicitWithFlags rs) = refl
set-fits ms es fs d (repr ReprKind.Function1D rs) = refl
set-fits ms es fs d (repr ReprKind.Function1DPartial rs) = refl
set-fits ms es fs d (repr ReprKind.FunctionND rs) = refl
set-fits ms es fs d (repr ReprKind.FunctionNDPartial rs) = refl
set-fits ms es fs d (repr ReprKind.FunctionAsRelation rs) = refl
set-fits ms es fs d (repr ReprKind.RelationAsMatrix rs) = refl
set-fits ms es fs d (repr ReprKind.RelationAsSet rs) = refl
set-fits ms es fs d (repr ReprKind.PartitionOccurrence rs) = refl
set-fits ms es fs d (repr ReprKind.PartitionAsSet rs) = refl

relation-names : (ms : List Mark) (es fs : Exs) (ds : Doms) (r : Repr) → table_names r (relation_dom ms es ds) ≡ table_names r (relation_dom ms fs ds)
relation-names ms es fs ds (repr ReprKind.Atom rs) = refl
relation-names ms es fs ds (repr ReprKind.Tuple rs) = refl
relation-names ms es fs ds (repr ReprKind.Rec rs) = refl
relation-names ms es fs ds (repr ReprKind.Matrix rs) = refl
relation-names ms es fs ds (repr ReprKind.Occurrence rs) = refl
relation-names ms es fs ds (repr ReprKind.Explicit rs) = refl
relation-names ms es fs ds (repr ReprKind.ExplicitVarSizeWithMarker rs) = refl
relation-names ms es fs ds (repr ReprKind.ExplicitVarSizeWithFlags rs) = refl
relation-names ms es fs ds (repr ReprKind.ExplicitVarSizeWithDummy rs) = refl
relation-names ms es fs ds (repr ReprKind.MSetOccurrence rs) = refl
relation-names ms es fs ds (repr ReprKind.MSetExplicitWithRepetition rs) = refl
relation-names ms es fs ds (repr ReprKind.MSetExplicitWithFlags rs) = refl
relation-names ms es fs ds (repr ReprKind.Function1D rs) = refl
relation-names ms es fs ds (repr ReprKind.Function1DPartial rs) = refl
relation-names ms es fs ds (repr ReprKind.FunctionND rs) = refl
relation-names ms es fs ds (repr ReprKind.FunctionNDPartial rs) = refl
relation-names ms es fs ds (repr ReprKind.FunctionAsRelation rs) = refl
relation-names ms es fs ds (repr ReprKind.RelationAsMatrix rs) = refl
relation-names ms es fs ds (repr ReprKind.RelationAsSet rs) = refl
relation-names ms es fs ds (repr ReprKind.PartitionOccurrence rs) = refl
relation-names ms es fs ds (repr ReprKind.PartitionAsSet rs) = refl

relation-fits : (ms : List Mark) (es fs : Exs) (ds : Doms) (r : Repr) → fits r (relation_dom ms es ds) ≡ fits r (relation_dom ms fs ds)
relation-fits ms es fs ds (repr ReprKind.Atom rs) = refl
relation-fits ms es fs ds (repr ReprKind.Tuple rs) = refl
relation-fits ms es fs ds (repr ReprKind.Rec rs) = refl
relation-fits ms es fs ds (repr ReprKind.Matrix rs) = refl
relation-fits ms es fs ds (repr ReprKind.Occurrence rs) = refl
relation-fits ms es fs ds (repr ReprKind.Explicit rs) = refl
relation-fits ms es fs ds (repr ReprKind.ExplicitVarSizeWithMarker rs) = refl
relation-fits ms es fs ds (repr ReprKind.ExplicitVarSizeWithFlags rs) = refl
relation-fits ms es fs ds (repr ReprKind.ExplicitVarSizeWithDummy rs) = refl
relation-fits ms es fs ds (repr ReprKind.MSetOccurrence rs) = refl
relation-fits ms es fs ds (repr ReprKind.MSetExplicitWithRepetition rs) = refl
relation-fits ms es fs ds (repr ReprKind.MSetExplicitWithFlags rs) = refl
relation-fits ms es fs ds (repr ReprKind.Function1D rs) = refl
relation-fits ms es fs ds (repr ReprKind.Function1DPartial rs) = refl
relation-fits ms es fs ds (repr ReprKind.FunctionND rs) = refl
relation-fits ms es fs ds (repr ReprKind.FunctionNDPartial rs) = refl
relation-fits ms es fs ds (repr ReprKind.FunctionAsRelation rs) = refl
relation-fits ms es fs ds (repr ReprKind.RelationAsMatrix rs) = refl
relation-fits ms es fs ds (repr ReprKind.RelationAsSet rs) = refl
relation-fits ms es fs ds (repr ReprKind.PartitionOccurrence rs) = refl
relation-fits ms es fs ds (repr ReprKind.PartitionAsSet rs) = refl

child-names-same : (rs : Reprs) (n : Named) (d e : Dom) → ((r : Repr) → table_names r d ≡ table_names r e) → names_of_children rs ((n, d) ∷ []) ≡ names_of_children rs ((n, e) ∷ [])
child-names-same no_reprs n d e h = refl
child-names-same (more_reprs r rs) n d e h = ap (λ l. below_child n l ++ names_of_children rs []) (h r)

child-fits-same : (rs : Reprs) (d e : Dom) → ((r : Repr) → fits r d ≡ fits r e) → all_fit rs (d ∷ []) ≡ all_fit rs (e ∷ [])
child-fits-same no_reprs d e h = refl
child-fits-same (more_reprs r rs) d e h = ap (λ b. b && all_fit rs []) (h r)

sets-names : (ms ns : List Mark) (es fs : Exs) (d : Dom) (r : Repr) → table_names r (set_dom ms es (set_dom ns fs d)) ≡ table_names r (set_dom ms no_exs (set_dom ns no_exs d))
sets-names ms ns es fs d (repr ReprKind.Atom rs) = refl
sets-names ms ns es fs d (repr ReprKind.Tuple rs) = refl
sets-names ms ns es fs d (repr ReprKind.Rec rs) = refl
sets-names ms ns es fs d (repr ReprKind.Matrix rs) = refl
sets-names ms ns es fs d (repr ReprKind.Occurrence rs) = refl
sets-names ms ns es fs d (repr ReprKind.Explicit rs) = go (has_key Key.Size ms)
  where
    go : (b : Bool) → names_of_children rs (zip ((codes "_Explicit", 1) ∷ []) (list_or_none (if b then Some (set_dom ns fs d ∷ []) else None)))
        ≡ names_of_children rs (zip ((codes "_Explicit", 1) ∷ []) (list_or_none (if b then Some (set_dom ns no_exs d ∷ []) else None)))
    go true = child-names-same rs (codes "_Explicit", 1) (set_dom ns fs d) (set_dom ns no_exs d) (set-names ns fs no_exs d)
    go false = refl
sets-names ms ns es fs d (repr ReprKind.ExplicitVarSizeWithMarker rs) = ap (λ l. ((codes "_ExplicitVarSizeWithMarker_Marker", 0) ∷ []) ++ l) (child-names-same rs (codes "_ExplicitVarSizeWithMarker_Values", 1) (set_dom ns fs d) (set_dom ns no_exs d) (set-names ns fs no_exs d))
sets-names ms ns es fs d (repr ReprKind.ExplicitVarSizeWithFlags rs) = ap (λ l. ((codes "_ExplicitVarSizeWithFlags_Flags", 1) ∷ []) ++ l) (child-names-same rs (codes "_ExplicitVarSizeWithFlags_Values", 1) (set_dom ns fs d) (set_dom ns no_exs d) (set-names ns fs no_exs d))
sets-names ms ns es fs d (repr ReprKind.ExplicitVarSizeWithDummy rs) = refl
sets-names ms ns es fs d (repr ReprKind.MSetOccurrence rs) = refl
sets-names ms ns es fs d (repr ReprKind.MSetExplicitWithRepetition rs) = refl
sets-names ms ns es fs d (repr ReprKind.MSetExplicitWithFlags rs) = refl
sets-names ms ns es fs d (repr ReprKind.Function1D rs) = refl
sets-names ms ns es fs d (repr ReprKind.Function1DPartial rs) = refl
sets-names ms ns es fs d (repr ReprKind.FunctionND rs) = refl
sets-names ms ns es fs d (repr ReprKind.FunctionNDPartial rs) = refl
sets-names ms ns es fs d (repr ReprKind.FunctionAsRelation rs) = refl
sets-names ms ns es fs d (repr ReprKind.RelationAsMatrix rs) = refl
sets-names ms ns es fs d (repr ReprKind.RelationAsSet rs) = refl
sets-names ms ns es fs d (repr ReprKind.PartitionOccurrence rs) = refl
sets-names ms ns es fs d (repr ReprKind.PartitionAsSet rs) = refl

-- Whether the children fit, where the kind is one for the domain.
abbrev fit_if : Bool → Reprs → Dom → Bool
fit_if t rs d = elim (if t then Some (d ∷ []) else None) [ None ↦ false | Some ds ↦ all_fit rs ds ]

sets-fits : (ms ns : List Mark) (es fs : Exs) (d : Dom) (r : Repr) → fits r (set_dom ms es (set_dom ns fs d)) ≡ fits r (set_dom ms no_exs (set_dom ns no_exs d))
sets-fits ms ns es fs d (repr ReprKind.Atom rs) = refl
sets-fits ms ns es fs d (repr ReprKind.Tuple rs) = refl
sets-fits ms ns es fs d (repr ReprKind.Rec rs) = refl
sets-fits ms ns es fs d (repr ReprKind.Matrix rs) = refl
sets-fits ms ns es fs d (repr ReprKind.Occurrence rs) = refl
sets-fits ms ns es fs d (repr ReprKind.Explicit rs) = go (has_key Key.Size ms)
  where
    go : (b : Bool) → fit_if b rs (set_dom ns fs d) ≡ fit_if b rs (set_dom ns no_exs d)
    go true = child-fits-same rs (set_dom ns fs d) (set_dom ns no_exs d) (set-fits ns fs no_exs d)
    go false = refl
sets-fits ms ns es fs d (repr ReprKind.ExplicitVarSizeWithMarker rs) = child-fits-same rs (set_dom ns fs d) (set_dom ns no_exs d) (set-fits ns fs no_exs d)
sets-fits ms ns es fs d (repr ReprKind.ExplicitVarSizeWithFlags rs) = child-fits-same rs (set_dom ns fs d) (set_dom ns no_exs d) (set-fits ns fs no_exs d)
sets-fits ms ns es fs d (repr ReprKind.ExplicitVarSizeWithDummy rs) = refl
sets-fits ms ns es fs d (repr ReprKind.MSetOccurrence rs) = refl
sets-fits ms ns es fs d (repr ReprKind.MSetExplicitWithRepetition rs) = refl
sets-fits ms ns es fs d (repr ReprKind.MSetExplicitWithFlags rs) = refl
sets-fits ms ns es fs d (repr ReprKind.Function1D rs) = refl
sets-fits ms ns es fs d (repr ReprKind.Function1DPartial rs) = refl
sets-fits ms ns es fs d (repr ReprKind.FunctionND rs) = refl
sets-fits ms ns es fs d (repr ReprKind.FunctionNDPartial rs) = refl
sets-fits ms ns es fs d (repr ReprKind.FunctionAsRelation rs) = refl
sets-fits ms ns es fs d (repr ReprKind.RelationAsMatrix rs) = refl
sets-fits ms ns es fs d (repr ReprKind.RelationAsSet rs) = refl
sets-fits ms ns es fs d (repr ReprKind.PartitionOccurrence rs) = refl
sets-fits ms ns es fs d (repr ReprKind.PartitionAsSet rs) = refl

same-as : (d : Dom) → Alike d d
same-as d = (λ r. refl, λ r. refl)

alike-without : (k : ReprKind) (d : Dom) → Alike d (without_sizes k d)
alike-without ReprKind.Atom d = same-as d
alike-without ReprKind.Tuple d = same-as d
alike-without ReprKind.Rec d = same-as d
alike-without ReprKind.Matrix d = same-as d
alike-without ReprKind.Occurrence d = same-as d
alike-without ReprKind.Explicit d = same-as d
alike-without ReprKind.ExplicitVarSizeWithMarker d = same-as d
alike-without ReprKind.ExplicitVarSizeWithFlags d = same-as d
alike-without ReprKind.ExplicitVarSizeWithDummy d = same-as d
alike-without ReprKind.MSetOccurrence d = same-as d
alike-without ReprKind.MSetExplicitWithRepetition d = same-as d
alike-without ReprKind.MSetExplicitWithFlags d = same-as d
alike-without ReprKind.Function1D d = same-as d
alike-without ReprKind.Function1DPartial d = same-as d
alike-without ReprKind.FunctionND d = same-as d
alike-without ReprKind.FunctionNDPartial d = same-as d
alike-without ReprKind.FunctionAsRelation bool_dom = same-as bool_dom
alike-without ReprKind.FunctionAsRelation (int_dom rs es) = same-as (int_dom rs es)
alike-without ReprKind.FunctionAsRelation (name_dom a) = same-as (name_dom a)
alike-without ReprKind.FunctionAsRelation (tuple_dom ts) = same-as (tuple_dom ts)
alike-without ReprKind.FunctionAsRelation (record_dom fs ts) = same-as (record_dom fs ts)
alike-without ReprKind.FunctionAsRelation (matrix_dom is d) = same-as (matrix_dom is d)
alike-without ReprKind.FunctionAsRelation (set_dom ms es d) = same-as (set_dom ms es d)
alike-without ReprKind.FunctionAsRelation (mset_dom ms es d) = same-as (mset_dom ms es d)
alike-without ReprKind.FunctionAsRelation (function_dom ms es d c) = same-as (function_dom ms es d c)
alike-without ReprKind.FunctionAsRelation (relation_dom ms es ts) = (relation-names ms es no_exs ts, relation-fits ms es no_exs ts)
alike-without ReprKind.FunctionAsRelation (partition_dom ms es d) = same-as (partition_dom ms es d)
alike-without ReprKind.RelationAsMatrix d = same-as d
alike-without ReprKind.RelationAsSet bool_dom = same-as bool_dom
alike-without ReprKind.RelationAsSet (int_dom rs es) = same-as (int_dom rs es)
alike-without ReprKind.RelationAsSet (name_dom a) = same-as (name_dom a)
alike-without ReprKind.RelationAsSet (tuple_dom ts) = same-as (tuple_dom ts)
alike-without ReprKind.RelationAsSet (record_dom fs ts) = same-as (record_dom fs ts)
alike-without ReprKind.RelationAsSet (matrix_dom is d) = same-as (matrix_dom is d)
alike-without ReprKind.RelationAsSet (set_dom ms es d) = (set-names ms es no_exs d, set-fits ms es no_exs d)
alike-without ReprKind.RelationAsSet (mset_dom ms es d) = same-as (mset_dom ms es d)
alike-without ReprKind.RelationAsSet (function_dom ms es d c) = same-as (function_dom ms es d c)
alike-without ReprKind.RelationAsSet (relation_dom ms es ts) = same-as (relation_dom ms es ts)
alike-without ReprKind.RelationAsSet (partition_dom ms es d) = same-as (partition_dom ms es d)
alike-without ReprKind.PartitionOccurrence d = same-as d
alike-without ReprKind.PartitionAsSet bool_dom = same-as bool_dom
alike-without ReprKind.PartitionAsSet (int_dom rs es) = same-as (int_dom rs es)
alike-without ReprKind.PartitionAsSet (name_dom a) = same-as (name_dom a)
alike-without ReprKind.PartitionAsSet (tuple_dom ts) = same-as (tuple_dom ts)
alike-without ReprKind.PartitionAsSet (record_dom fs ts) = same-as (record_dom fs ts)
alike-without ReprKind.PartitionAsSet (matrix_dom is d) = same-as (matrix_dom is d)
alike-without ReprKind.PartitionAsSet (set_dom ms es bool_dom) = same-as (set_dom ms es bool_dom)
alike-without ReprKind.PartitionAsSet (set_dom ms es (int_dom rs gs)) = same-as (set_dom ms es (int_dom rs gs))
alike-without ReprKind.PartitionAsSet (set_dom ms es (name_dom a)) = same-as (set_dom ms es (name_dom a))
alike-without ReprKind.PartitionAsSet (set_dom ms es (tuple_dom ts)) = same-as (set_dom ms es (tuple_dom ts))
alike-without ReprKind.PartitionAsSet (set_dom ms es (record_dom fs ts)) = same-as (set_dom ms es (record_dom fs ts))
alike-without ReprKind.PartitionAsSet (set_dom ms es (matrix_dom is d)) = same-as (set_dom ms es (matrix_dom is d))
alike-without ReprKind.PartitionAsSet (set_dom ms es (set_dom ns gs d)) = (sets-names ms ns es gs d, sets-fits ms ns es gs d)
alike-without ReprKind.PartitionAsSet (set_dom ms es (mset_dom ns gs d)) = same-as (set_dom ms es (mset_dom ns gs d))
alike-without ReprKind.PartitionAsSet (set_dom ms es (function_dom ns gs d c)) = same-as (set_dom ms es (function_dom ns gs d c))
alike-without ReprKind.PartitionAsSet (set_dom ms es (relation_dom ns gs ts)) = same-as (set_dom ms es (relation_dom ns gs ts))
alike-without ReprKind.PartitionAsSet (set_dom ms es (partition_dom ns gs d)) = same-as (set_dom ms es (partition_dom ns gs d))
alike-without ReprKind.PartitionAsSet (mset_dom ms es d) = same-as (mset_dom ms es d)
alike-without ReprKind.PartitionAsSet (function_dom ms es d c) = same-as (function_dom ms es d c)
alike-without ReprKind.PartitionAsSet (relation_dom ms es ts) = same-as (relation_dom ms es ts)
alike-without ReprKind.PartitionAsSet (partition_dom ms es d) = same-as (partition_dom ms es d)

-- The domains have tables of one name each, one by one.
abbrev pub AllAlike : List Dom → List Dom → Type 0
AllAlike [] [] = Unit {0}
AllAlike (d ∷ ds) (e ∷ es) = Alike d e × AllAlike ds es
AllAlike _ es = ⊥

pub all-alike : (k : ReprKind) (ds : List Dom) → AllAlike ds (map (without_sizes k) ds)
all-alike k [] = tt
all-alike k (d ∷ ds) = (alike-without k d, all-alike k ds)
