-- The rows of domains that code makes for children.
use Rattle.std.proofs.Common.{◌≡◌, refl, sym, ap, ◌∙◌, ℕ, ◌+◌, ◌<◌, ◌≤◌, List, [], ◌∷◌, ◌++◌, map, take, length, get_or}
use Rattle.std.proofs.lemmas.List.{map-append, take_more, take_all}
use Rattle.ess_semantics.specs.declared.words.ReprKind.{ReprKind}
use Rattle.ess_semantics.specs.Trees as pure
use Rattle.ess_semantics.specs.Trees.{Ends, Exs, bool_dom, int_dom, name_dom}
use Rattle.ess_semantics.specs.Values.{Text}
use Rattle.ess_semantics.specs.Kinds.{doms_of, dom_list}
use Rattle.ess_core.specs.declared.domains.Dom.{Dom}
use Rattle.ess_core.specs.declared.domains.Dom.TheVariants as variant
use Rattle.ess_core.specs.declared.domains.Range.{Range}
use Rattle.ess_core.specs.declared.domains.FieldDom.{FieldDom}
use Rattle.ess_core.specs.declared.domains.Dom.TheViews.{out-FieldDom}
use Rattle.ess_core.specs.TreeViews.{field_values, pure_dom, pure_doms, pure_field_dom}
use Rattle.ess_core.proofs.DomainEquations.{pure_bool, pure_int, pure_name}
use Rattle.ess_core.proofs.PartEquations.{pure_field_dom_is}
use Rattle.ess_repr_declare_laws.specs.ChildDomains.{child_doms}

-- ---- atoms have no children

bool-none : (k : ReprKind) → child_doms k bool_dom ≡ []
bool-none ReprKind.Atom = refl
bool-none ReprKind.Tuple = refl
bool-none ReprKind.Rec = refl
bool-none ReprKind.Matrix = refl
bool-none ReprKind.Occurrence = refl
bool-none ReprKind.Explicit = refl
bool-none ReprKind.ExplicitVarSizeWithMarker = refl
bool-none ReprKind.ExplicitVarSizeWithFlags = refl
bool-none ReprKind.ExplicitVarSizeWithDummy = refl
bool-none ReprKind.MSetOccurrence = refl
bool-none ReprKind.MSetExplicitWithRepetition = refl
bool-none ReprKind.MSetExplicitWithFlags = refl
bool-none ReprKind.Function1D = refl
bool-none ReprKind.Function1DPartial = refl
bool-none ReprKind.FunctionND = refl
bool-none ReprKind.FunctionNDPartial = refl
bool-none ReprKind.FunctionAsRelation = refl
bool-none ReprKind.RelationAsMatrix = refl
bool-none ReprKind.RelationAsSet = refl
bool-none ReprKind.PartitionOccurrence = refl
bool-none ReprKind.PartitionAsSet = refl

int-none : (k : ReprKind) (ws : List Ends) (es : Exs) → child_doms k (int_dom ws es) ≡ []
int-none ReprKind.Atom ws es = refl
int-none ReprKind.Tuple ws es = refl
int-none ReprKind.Rec ws es = refl
int-none ReprKind.Matrix ws es = refl
int-none ReprKind.Occurrence ws es = refl
int-none ReprKind.Explicit ws es = refl
int-none ReprKind.ExplicitVarSizeWithMarker ws es = refl
int-none ReprKind.ExplicitVarSizeWithFlags ws es = refl
int-none ReprKind.ExplicitVarSizeWithDummy ws es = refl
int-none ReprKind.MSetOccurrence ws es = refl
int-none ReprKind.MSetExplicitWithRepetition ws es = refl
int-none ReprKind.MSetExplicitWithFlags ws es = refl
int-none ReprKind.Function1D ws es = refl
int-none ReprKind.Function1DPartial ws es = refl
int-none ReprKind.FunctionND ws es = refl
int-none ReprKind.FunctionNDPartial ws es = refl
int-none ReprKind.FunctionAsRelation ws es = refl
int-none ReprKind.RelationAsMatrix ws es = refl
int-none ReprKind.RelationAsSet ws es = refl
int-none ReprKind.PartitionOccurrence ws es = refl
int-none ReprKind.PartitionAsSet ws es = refl

name-none : (k : ReprKind) (a : Text) → child_doms k (name_dom a) ≡ []
name-none ReprKind.Atom a = refl
name-none ReprKind.Tuple a = refl
name-none ReprKind.Rec a = refl
name-none ReprKind.Matrix a = refl
name-none ReprKind.Occurrence a = refl
name-none ReprKind.Explicit a = refl
name-none ReprKind.ExplicitVarSizeWithMarker a = refl
name-none ReprKind.ExplicitVarSizeWithFlags a = refl
name-none ReprKind.ExplicitVarSizeWithDummy a = refl
name-none ReprKind.MSetOccurrence a = refl
name-none ReprKind.MSetExplicitWithRepetition a = refl
name-none ReprKind.MSetExplicitWithFlags a = refl
name-none ReprKind.Function1D a = refl
name-none ReprKind.Function1DPartial a = refl
name-none ReprKind.FunctionND a = refl
name-none ReprKind.FunctionNDPartial a = refl
name-none ReprKind.FunctionAsRelation a = refl
name-none ReprKind.RelationAsMatrix a = refl
name-none ReprKind.RelationAsSet a = refl
name-none ReprKind.PartitionOccurrence a = refl
name-none ReprKind.PartitionAsSet a = refl

pub none_of_bool : (k : ReprKind) → child_doms k (pure_dom variant.Bool) ≡ []
none_of_bool k = ap (child_doms k) pure_bool ∙ bool-none k

pub none_of_int : (k : ReprKind) (rs : List Range) → child_doms k (pure_dom (variant.Int rs)) ≡ []
none_of_int k rs = ap (child_doms k) (pure_int rs) ∙ int-none k _ _

pub none_of_name : (k : ReprKind) (a : Text) → child_doms k (pure_dom (variant.Name a)) ≡ []
none_of_name k a = ap (child_doms k) (pure_name a) ∙ name-none k a

-- ---- rows

pub parts_are : (ds : List Dom) → dom_list (pure_doms ds) ≡ map pure_dom ds
parts_are [] = refl
parts_are (d ∷ ds) = ap (λ l. pure_dom d ∷ l) (parts_are ds)

pub tuple_children : (k : ReprKind) (ds es : List Dom) → k ≡ ReprKind.Tuple → es ≡ ds → map pure_dom es ≡ child_doms k (pure.tuple_dom (pure_doms ds))
tuple_children k ds es h e = ap (map pure_dom) e ∙ sym (ap (λ j. child_doms j (pure.tuple_dom (pure_doms ds))) h ∙ parts_are ds)

-- The domain of a field.
abbrev pub for_field : FieldDom → pure.Dom
for_field f = pure_dom (out-FieldDom f).dom

pub fields_more : (fs : List FieldDom) (i : ℕ) (ds es : List Dom) (f : FieldDom) → i < length fs → f ≡ get_or fs i f →
    es ≡ ds ++ (out-FieldDom f).dom ∷ [] → map pure_dom ds ≡ map for_field (take i fs) → map pure_dom es ≡ map for_field (take (i + 1) fs)
fields_more fs i ds es f h is e p =
    ap (map pure_dom) e ∙ map-append pure_dom ds ((out-FieldDom f).dom ∷ []) ∙ ap (λ l. l ++ for_field f ∷ []) p
    ∙ ap (λ y. map for_field (take i fs) ++ for_field y ∷ []) is ∙ sym (map-append for_field (take i fs) (get_or fs i f ∷ []))
    ∙ sym (ap (map for_field) (take_more fs i f h))

each-field : (fs : List FieldDom) → map for_field fs ≡ dom_list (doms_of (field_values (map pure_field_dom fs)))
each-field [] = refl
each-field (f ∷ fs) =
    ap (λ l. for_field f ∷ l) (each-field fs)
    ∙ ap (λ d. d ∷ dom_list (doms_of (field_values (map pure_field_dom fs)))) (sym (ap (λ g. g.1) (pure_field_dom_is f)))

pub fields_all : (fs : List FieldDom) (i : ℕ) (ds : List Dom) → length fs ≤ i → map pure_dom ds ≡ map for_field (take i fs) →
    map pure_dom ds ≡ dom_list (doms_of (field_values (map pure_field_dom fs)))
fields_all fs i ds h p = p ∙ ap (map for_field) (take_all i fs h) ∙ each-field fs
