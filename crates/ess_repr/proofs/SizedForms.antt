-- Of a constructed domain, whether a representation fits depends on `size` alone among its attributes.
use Rattle.std.proofs.Common.{◌≡◌, refl, sym, ap, ◌∙◌, Bool, true, false, ◌&&◌, ◌||◌, not, if◌then◌else◌, List, [], ◌∷◌, Some, None}
use Rattle.ess_semantics.specs.declared.words.ReprKind.{ReprKind}
use Rattle.ess_semantics.specs.declared.words.Key.{Key}
use Rattle.ess_semantics.specs.Trees as pure
use Rattle.ess_semantics.specs.Trees.{Ends, Mark, Repr, Reprs, repr, no_reprs, more_reprs, Exs, no_exs, Dom, Doms, bool_dom, int_dom, name_dom, tuple_dom, set_dom, relation_dom, no_doms, more_doms}
use Rattle.ess_semantics.specs.Values.{Text}
use Rattle.ess_semantics.specs.Kinds.{has_key, size_marks, child_relation_form, child_set_form, child_parts_form, fits, all_fit}
use Rattle.ess_core.specs.TreeViews.{pure_repr}
use Rattle.ess_core.specs.declared.representations.Repr as code
use Rattle.ess_core.specs.declared.representations.Repr.TheViews.{out-Repr}
use Rattle.ess_repr.proofs.FittingChildren.{kids, kind_in}

-- The marks of a size alone.
abbrev pub alone : Bool → List Mark
alone s = size_marks s false false

has-sized : (s a b : Bool) → has_key Key.Size (size_marks s a b) ≡ s
has-sized true a b = refl
has-sized false true true = refl
has-sized false true false = refl
has-sized false false true = refl
has-sized false false false = refl

-- Whether the children fit, where the kind is one for the domain.
abbrev fit_if : Bool → Reprs → Dom → Bool
fit_if t rs d = elim (if t then Some (d ∷ []) else None) [ None ↦ false | Some ds ↦ all_fit rs ds ]

if-sized : (s t : Bool) (rs : Reprs) (d : Dom) → s ≡ t → fit_if s rs d ≡ fit_if t rs d
if-sized s t rs d h = ap (λ c. fit_if c rs d) h

-- ---- atoms

pub ints_alike : (r : Repr) (ws : List Ends) (es : Exs) → fits r (int_dom ws es) ≡ fits r bool_dom
ints_alike (repr ReprKind.Atom rs) ws es = refl
ints_alike (repr ReprKind.Tuple rs) ws es = refl
ints_alike (repr ReprKind.Rec rs) ws es = refl
ints_alike (repr ReprKind.Matrix rs) ws es = refl
ints_alike (repr ReprKind.Occurrence rs) ws es = refl
ints_alike (repr ReprKind.Explicit rs) ws es = refl
ints_alike (repr ReprKind.ExplicitVarSizeWithMarker rs) ws es = refl
ints_alike (repr ReprKind.ExplicitVarSizeWithFlags rs) ws es = refl
ints_alike (repr ReprKind.ExplicitVarSizeWithDummy rs) ws es = refl
ints_alike (repr ReprKind.MSetOccurrence rs) ws es = refl
ints_alike (repr ReprKind.MSetExplicitWithRepetition rs) ws es = refl
ints_alike (repr ReprKind.MSetExplicitWithFlags rs) ws es = refl
ints_alike (repr ReprKind.Function1D rs) ws es = refl
ints_alike (repr ReprKind.Function1DPartial rs) ws es = refl
ints_alike (repr ReprKind.FunctionND rs) ws es = refl
ints_alike (repr ReprKind.FunctionNDPartial rs) ws es = refl
ints_alike (repr ReprKind.FunctionAsRelation rs) ws es = refl
ints_alike (repr ReprKind.RelationAsMatrix rs) ws es = refl
ints_alike (repr ReprKind.RelationAsSet rs) ws es = refl
ints_alike (repr ReprKind.PartitionOccurrence rs) ws es = refl
ints_alike (repr ReprKind.PartitionAsSet rs) ws es = refl

pub names_alike : (r : Repr) (a : Text) → fits r (name_dom a) ≡ fits r bool_dom
names_alike (repr ReprKind.Atom rs) a = refl
names_alike (repr ReprKind.Tuple rs) a = refl
names_alike (repr ReprKind.Rec rs) a = refl
names_alike (repr ReprKind.Matrix rs) a = refl
names_alike (repr ReprKind.Occurrence rs) a = refl
names_alike (repr ReprKind.Explicit rs) a = refl
names_alike (repr ReprKind.ExplicitVarSizeWithMarker rs) a = refl
names_alike (repr ReprKind.ExplicitVarSizeWithFlags rs) a = refl
names_alike (repr ReprKind.ExplicitVarSizeWithDummy rs) a = refl
names_alike (repr ReprKind.MSetOccurrence rs) a = refl
names_alike (repr ReprKind.MSetExplicitWithRepetition rs) a = refl
names_alike (repr ReprKind.MSetExplicitWithFlags rs) a = refl
names_alike (repr ReprKind.Function1D rs) a = refl
names_alike (repr ReprKind.Function1DPartial rs) a = refl
names_alike (repr ReprKind.FunctionND rs) a = refl
names_alike (repr ReprKind.FunctionNDPartial rs) a = refl
names_alike (repr ReprKind.FunctionAsRelation rs) a = refl
names_alike (repr ReprKind.RelationAsMatrix rs) a = refl
names_alike (repr ReprKind.RelationAsSet rs) a = refl
names_alike (repr ReprKind.PartitionOccurrence rs) a = refl
names_alike (repr ReprKind.PartitionAsSet rs) a = refl

-- ---- sets

pub set_sized : (r : Repr) (ms : List Mark) (es : Exs) (d : Dom) → fits r (set_dom ms es d) ≡ fits r (set_dom (alone (has_key Key.Size ms)) no_exs d)
set_sized (repr ReprKind.Atom rs) ms es d = refl
set_sized (repr ReprKind.Tuple rs) ms es d = refl
set_sized (repr ReprKind.Rec rs) ms es d = refl
set_sized (repr ReprKind.Matrix rs) ms es d = refl
set_sized (repr ReprKind.Occurrence rs) ms es d = refl
set_sized (repr ReprKind.Explicit rs) ms es d = if-sized (has_key Key.Size ms) (has_key Key.Size (alone (has_key Key.Size ms))) rs d (sym (has-sized (has_key Key.Size ms) false false))
set_sized (repr ReprKind.ExplicitVarSizeWithMarker rs) ms es d = refl
set_sized (repr ReprKind.ExplicitVarSizeWithFlags rs) ms es d = refl
set_sized (repr ReprKind.ExplicitVarSizeWithDummy rs) ms es d = refl
set_sized (repr ReprKind.MSetOccurrence rs) ms es d = refl
set_sized (repr ReprKind.MSetExplicitWithRepetition rs) ms es d = refl
set_sized (repr ReprKind.MSetExplicitWithFlags rs) ms es d = refl
set_sized (repr ReprKind.Function1D rs) ms es d = refl
set_sized (repr ReprKind.Function1DPartial rs) ms es d = refl
set_sized (repr ReprKind.FunctionND rs) ms es d = refl
set_sized (repr ReprKind.FunctionNDPartial rs) ms es d = refl
set_sized (repr ReprKind.FunctionAsRelation rs) ms es d = refl
set_sized (repr ReprKind.RelationAsMatrix rs) ms es d = refl
set_sized (repr ReprKind.RelationAsSet rs) ms es d = refl
set_sized (repr ReprKind.PartitionOccurrence rs) ms es d = refl
set_sized (repr ReprKind.PartitionAsSet rs) ms es d = refl

-- an only child that is a set
child-sized : (rs : Reprs) (ms : List Mark) (es : Exs) (d : Dom) →
    all_fit rs (set_dom ms es d ∷ []) ≡ all_fit rs (set_dom (alone (has_key Key.Size ms)) no_exs d ∷ [])
child-sized no_reprs ms es d = refl
child-sized (more_reprs r rs) ms es d = ap (λ b. b && all_fit rs []) (set_sized r ms es d)

child-marked : (rs : Reprs) (s a b : Bool) (d : Dom) → all_fit rs (set_dom (size_marks s a b) no_exs d ∷ []) ≡ all_fit rs (set_dom (alone s) no_exs d ∷ [])
child-marked rs s a b d = child-sized rs (size_marks s a b) no_exs d ∙ ap (λ c. all_fit rs (set_dom (alone c) no_exs d ∷ [])) (has-sized s a b)

-- ---- relations

-- The child of a relation that is kept as a set.
pub set_child : (x : code.Repr) (s : Bool) (ds : Doms) → (out-Repr x).kind ≡ ReprKind.RelationAsSet →
    fits (pure_repr x) (relation_dom (alone s) no_exs ds) ≡ all_fit (kids (out-Repr x).children) (set_dom (alone s) no_exs (tuple_dom ds) ∷ [])
set_child x s ds h =
    ap (λ r. fits r (relation_dom (alone s) no_exs ds)) (kind_in x ReprKind.RelationAsSet h)
    ∙ child-marked (kids (out-Repr x).children) (has_key Key.Size (alone s)) (has_key Key.MinSize (alone s)) (has_key Key.MaxSize (alone s)) (tuple_dom ds)
    ∙ ap (λ c. all_fit (kids (out-Repr x).children) (set_dom (alone c) no_exs (tuple_dom ds) ∷ [])) (has-sized s false false)

pub relation_sized : (r : Repr) (ms : List Mark) (es : Exs) (ds : Doms) → fits r (relation_dom ms es ds) ≡ fits r (relation_dom (alone (has_key Key.Size ms)) no_exs ds)
relation_sized (repr ReprKind.Atom rs) ms es ds = refl
relation_sized (repr ReprKind.Tuple rs) ms es ds = refl
relation_sized (repr ReprKind.Rec rs) ms es ds = refl
relation_sized (repr ReprKind.Matrix rs) ms es ds = refl
relation_sized (repr ReprKind.Occurrence rs) ms es ds = refl
relation_sized (repr ReprKind.Explicit rs) ms es ds = refl
relation_sized (repr ReprKind.ExplicitVarSizeWithMarker rs) ms es ds = refl
relation_sized (repr ReprKind.ExplicitVarSizeWithFlags rs) ms es ds = refl
relation_sized (repr ReprKind.ExplicitVarSizeWithDummy rs) ms es ds = refl
relation_sized (repr ReprKind.MSetOccurrence rs) ms es ds = refl
relation_sized (repr ReprKind.MSetExplicitWithRepetition rs) ms es ds = refl
relation_sized (repr ReprKind.MSetExplicitWithFlags rs) ms es ds = refl
relation_sized (repr ReprKind.Function1D rs) ms es ds = refl
relation_sized (repr ReprKind.Function1DPartial rs) ms es ds = refl
relation_sized (repr ReprKind.FunctionND rs) ms es ds = refl
relation_sized (repr ReprKind.FunctionNDPartial rs) ms es ds = refl
relation_sized (repr ReprKind.FunctionAsRelation rs) ms es ds = refl
relation_sized (repr ReprKind.RelationAsMatrix rs) ms es ds = refl
relation_sized (repr ReprKind.RelationAsSet rs) ms es ds =
    let s : Bool = has_key Key.Size ms in
    child-marked rs s (has_key Key.MinSize ms) (has_key Key.MaxSize ms) (tuple_dom ds)
    ∙ ap (λ c. all_fit rs (set_dom (alone c) no_exs (tuple_dom ds) ∷ [])) (sym (has-sized s false false))
    ∙ sym (child-marked rs (has_key Key.Size (alone s)) (has_key Key.MinSize (alone s)) (has_key Key.MaxSize (alone s)) (tuple_dom ds))
relation_sized (repr ReprKind.PartitionOccurrence rs) ms es ds = refl
relation_sized (repr ReprKind.PartitionAsSet rs) ms es ds = refl

-- The relation of a function's pairs.
pub pairs_child : (rs : Reprs) (ms : List Mark) (d c : Dom) →
    all_fit rs (child_relation_form ms d c ∷ []) ≡ all_fit rs (relation_dom (alone (has_key Key.Total ms || has_key Key.Size ms)) no_exs (more_doms d (more_doms c no_doms)) ∷ [])
pairs_child no_reprs ms d c = refl
pairs_child (more_reprs r rs) ms d c =
    let s : Bool = has_key Key.Total ms || has_key Key.Size ms in
    let l : Bool = has_key Key.MinSize ms in
    let u : Bool = has_key Key.MaxSize ms || not (has_key Key.Total ms || has_key Key.Size ms) in
    ap (λ b. b && all_fit rs [])
    (relation_sized r (size_marks s l u) no_exs (more_doms d (more_doms c no_doms))
    ∙ ap (λ t. fits r (relation_dom (alone t) no_exs (more_doms d (more_doms c no_doms)))) (has-sized s l u))

pub pairs_are : (x : code.Repr) (ms : List Mark) (es : Exs) (d c : Dom) → (out-Repr x).kind ≡ ReprKind.FunctionAsRelation →
    fits (pure_repr x) (pure.function_dom ms es d c)
    ≡ all_fit (kids (out-Repr x).children) (relation_dom (alone (has_key Key.Total ms || has_key Key.Size ms)) no_exs (more_doms d (more_doms c no_doms)) ∷ [])
pairs_are x ms es d c h =
    ap (λ r. fits r (pure.function_dom ms es d c)) (kind_in x ReprKind.FunctionAsRelation h) ∙ pairs_child (kids (out-Repr x).children) ms d c

-- ---- the sets of a partition

part-sized : (r : Repr) (ms ns : List Mark) (es fs : Exs) (d : Dom) →
    fits r (set_dom ms es (set_dom ns fs d)) ≡ fits r (set_dom ms es (set_dom (alone (has_key Key.Size ns)) no_exs d))
part-sized (repr ReprKind.Atom rs) ms ns es fs d = refl
part-sized (repr ReprKind.Tuple rs) ms ns es fs d = refl
part-sized (repr ReprKind.Rec rs) ms ns es fs d = refl
part-sized (repr ReprKind.Matrix rs) ms ns es fs d = refl
part-sized (repr ReprKind.Occurrence rs) ms ns es fs d = refl
part-sized (repr ReprKind.Explicit rs) ms ns es fs d = go (has_key Key.Size ms)
  where
    go : (t : Bool) → fit_if t rs (set_dom ns fs d) ≡ fit_if t rs (set_dom (alone (has_key Key.Size ns)) no_exs d)
    go true = child-sized rs ns fs d
    go false = refl
part-sized (repr ReprKind.ExplicitVarSizeWithMarker rs) ms ns es fs d = child-sized rs ns fs d
part-sized (repr ReprKind.ExplicitVarSizeWithFlags rs) ms ns es fs d = child-sized rs ns fs d
part-sized (repr ReprKind.ExplicitVarSizeWithDummy rs) ms ns es fs d = refl
part-sized (repr ReprKind.MSetOccurrence rs) ms ns es fs d = refl
part-sized (repr ReprKind.MSetExplicitWithRepetition rs) ms ns es fs d = refl
part-sized (repr ReprKind.MSetExplicitWithFlags rs) ms ns es fs d = refl
part-sized (repr ReprKind.Function1D rs) ms ns es fs d = refl
part-sized (repr ReprKind.Function1DPartial rs) ms ns es fs d = refl
part-sized (repr ReprKind.FunctionND rs) ms ns es fs d = refl
part-sized (repr ReprKind.FunctionNDPartial rs) ms ns es fs d = refl
part-sized (repr ReprKind.FunctionAsRelation rs) ms ns es fs d = refl
part-sized (repr ReprKind.RelationAsMatrix rs) ms ns es fs d = refl
part-sized (repr ReprKind.RelationAsSet rs) ms ns es fs d = refl
part-sized (repr ReprKind.PartitionOccurrence rs) ms ns es fs d = refl
part-sized (repr ReprKind.PartitionAsSet rs) ms ns es fs d = refl

pub parts_child : (rs : Reprs) (ms : List Mark) (d : Dom) →
    all_fit rs (child_parts_form ms d ∷ [])
    ≡ all_fit rs (set_dom (alone (has_key Key.NumParts ms)) no_exs (set_dom (alone (has_key Key.PartSize ms)) no_exs d) ∷ [])
parts_child no_reprs ms d = refl
parts_child (more_reprs r rs) ms d =
    let s : Bool = has_key Key.NumParts ms in
    let l : Bool = has_key Key.MinNumParts ms in
    let u : Bool = has_key Key.MaxNumParts ms || not (has_key Key.NumParts ms) in
    let t : Bool = has_key Key.PartSize ms in
    let m : Bool = has_key Key.MinPartSize ms in
    let w : Bool = has_key Key.MaxPartSize ms in
    ap (λ b. b && all_fit rs [])
    (set_sized r (size_marks s l u) no_exs (set_dom (size_marks t m w) no_exs d)
    ∙ ap (λ c. fits r (set_dom (alone c) no_exs (set_dom (size_marks t m w) no_exs d))) (has-sized s l u)
    ∙ part-sized r (alone s) (size_marks t m w) no_exs no_exs d
    ∙ ap (λ c. fits r (set_dom (alone s) no_exs (set_dom (alone c) no_exs d))) (has-sized t m w))

pub parts_are : (x : code.Repr) (ms : List Mark) (es : Exs) (d : Dom) → (out-Repr x).kind ≡ ReprKind.PartitionAsSet →
    fits (pure_repr x) (pure.partition_dom ms es d)
    ≡ all_fit (kids (out-Repr x).children) (set_dom (alone (has_key Key.NumParts ms)) no_exs (set_dom (alone (has_key Key.PartSize ms)) no_exs d) ∷ [])
parts_are x ms es d h =
    ap (λ r. fits r (pure.partition_dom ms es d)) (kind_in x ReprKind.PartitionAsSet h) ∙ parts_child (kids (out-Repr x).children) ms d
