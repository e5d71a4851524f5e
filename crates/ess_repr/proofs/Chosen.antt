-- The representations that code makes, and those that it chooses.
use Rattle.std.proofs.Common.{◌≡◌, refl, sym, ap, ◌∙◌, ℕ, ◌+◌, ◌<◌, ◌≤◌, Bool, true, false, ◌&&◌, ◌||◌, if◌then◌else◌, List, [], ◌∷◌, ◌++◌, map, take, length, get_or, Some, None}
use Rattle.std.proofs.lemmas.List.{map-append, take_more, take_all}
use Rattle.ess_semantics.specs.declared.words.ReprKind.{ReprKind}
use Rattle.ess_semantics.specs.declared.words.Key.{Key}
use Rattle.ess_semantics.specs.Trees as pure
use Rattle.ess_semantics.specs.Trees.{Mark}
use Rattle.ess_semantics.specs.Values.{Text}
use Rattle.ess_semantics.specs.Kinds.{doms_of, has_key, is_atom, is_atom_tuple}
use Rattle.ess_semantics.specs.Choice.{reprs_of, alone, over_child, relation_is_sized, default_relation, default_function, default_repr, default_reprs}
use Rattle.ess_core.specs.declared.representations.Repr.{Repr}
use Rattle.ess_core.specs.declared.representations.Repr.TheViews.{out-Repr}
use Rattle.ess_core.specs.declared.domains.Dom.{Dom}
use Rattle.ess_core.specs.declared.domains.Dom.TheVariants as variant
use Rattle.ess_core.specs.declared.domains.FieldDom.{FieldDom}
use Rattle.ess_core.specs.declared.domains.Range.{Range}
use Rattle.ess_core.specs.declared.domains.Dom.TheViews.{out-FieldDom}
use Rattle.ess_core.specs.TreeViews.{pure_repr, pure_dom, pure_doms, pure_field_dom, field_values}
use Rattle.ess_core.proofs.RepresentationEquations.{pure_repr_is}
use Rattle.ess_core.proofs.DomainEquations.{pure_bool, pure_int, pure_name}
use Rattle.ess_core.proofs.PartEquations.{pure_field_dom_is}
use Rattle.ess_repr.proofs.FittingChildren.{kids, kind_in}

-- ---- made

pub made_alone : (x : Repr) (k : ReprKind) → (out-Repr x).kind ≡ k → (out-Repr x).children ≡ [] → pure_repr x ≡ alone k
made_alone x k h e = kind_in x k h ∙ ap (λ rs. pure.repr k (kids rs)) e

pub made_over : (x c : Repr) (k : ReprKind) → (out-Repr x).kind ≡ k → (out-Repr x).children ≡ c ∷ [] → pure_repr x ≡ over_child k (pure_repr c)
made_over x c k h e = kind_in x k h ∙ ap (λ rs. pure.repr k (kids rs)) e

pub made_of : (x : Repr) (rs : List Repr) (ds : pure.Reprs) (k : ReprKind) → (out-Repr x).kind ≡ k → (out-Repr x).children ≡ rs → kids rs ≡ ds →
    pure_repr x ≡ pure.repr k ds
made_of x rs ds k h e f = kind_in x k h ∙ ap (λ l. pure.repr k (kids l)) e ∙ ap (pure.repr k) f

pub made_pairs : (x a b : Repr) → (out-Repr x).kind ≡ ReprKind.Tuple → (out-Repr x).children ≡ a ∷ b ∷ [] →
    pure_repr x ≡ pure.repr ReprKind.Tuple (pure.more_reprs (pure_repr a) (pure.more_reprs (pure_repr b) pure.no_reprs))
made_pairs x a b h e = kind_in x ReprKind.Tuple h ∙ ap (λ rs. pure.repr ReprKind.Tuple (kids rs)) e

-- ---- atoms

pub of_bool : default_repr (pure_dom variant.Bool) ≡ alone ReprKind.Atom
of_bool = ap default_repr pure_bool

pub of_int : (rs : List Range) → default_repr (pure_dom (variant.Int rs)) ≡ alone ReprKind.Atom
of_int rs = ap default_repr (pure_int rs)

pub of_name : (a : Text) → default_repr (pure_dom (variant.Name a)) ≡ alone ReprKind.Atom
of_name a = ap default_repr (pure_name a)

-- ---- functions

-- The default of a function, where it is known what its domain is.
abbrev by_tests : Bool → Bool → List Mark → pure.Dom → pure.Dom → pure.Repr → pure.Repr → pure.Repr
by_tests a n ms d c rd rc =
    if a then over_child (if has_key Key.Total ms then ReprKind.Function1D else ReprKind.Function1DPartial) rc
    else (if n then over_child (if has_key Key.Total ms then ReprKind.FunctionND else ReprKind.FunctionNDPartial) rc
    else over_child ReprKind.FunctionAsRelation
    (default_relation (a && is_atom c) (relation_is_sized ms) (pure.more_reprs rd (pure.more_reprs rc pure.no_reprs))))

pub function_one : (ms : List Mark) (d c : pure.Dom) (rd rc : pure.Repr) → is_atom d ≡ true →
    default_function ms d c rd rc ≡ over_child (if has_key Key.Total ms then ReprKind.Function1D else ReprKind.Function1DPartial) rc
function_one ms d c rd rc h = go (is_atom d) h
  where
    go : (a : Bool) → a ≡ true → by_tests a (is_atom_tuple d) ms d c rd rc ≡ over_child (if has_key Key.Total ms then ReprKind.Function1D else ReprKind.Function1DPartial) rc
    go true e = refl
    go false e = cc

pub function_many : (ms : List Mark) (d c : pure.Dom) (rd rc : pure.Repr) → is_atom d ≡ false → is_atom_tuple d ≡ true →
    default_function ms d c rd rc ≡ over_child (if has_key Key.Total ms then ReprKind.FunctionND else ReprKind.FunctionNDPartial) rc
function_many ms d c rd rc h k = go (is_atom d) (is_atom_tuple d) h k
  where
    go : (a n : Bool) → a ≡ false → n ≡ true → by_tests a n ms d c rd rc ≡ over_child (if has_key Key.Total ms then ReprKind.FunctionND else ReprKind.FunctionNDPartial) rc
    go false true e f = refl
    go false false e f = cc
    go true n e f = cc

pub function_else : (ms : List Mark) (d c : pure.Dom) (rd rc : pure.Repr) → is_atom d ≡ false → is_atom_tuple d ≡ false →
    default_function ms d c rd rc
    ≡ over_child ReprKind.FunctionAsRelation (default_relation false (has_key Key.Total ms || has_key Key.Size ms) (pure.more_reprs rd (pure.more_reprs rc pure.no_reprs)))
function_else ms d c rd rc h k = go (is_atom d) (is_atom_tuple d) h k
  where
    go : (a n : Bool) → a ≡ false → n ≡ false → by_tests a n ms d c rd rc
        ≡ over_child ReprKind.FunctionAsRelation (default_relation false (has_key Key.Total ms || has_key Key.Size ms) (pure.more_reprs rd (pure.more_reprs rc pure.no_reprs)))
    go false false e f = refl
    go false true e f = cc
    go true n e f = cc

-- ---- components

-- What is chosen for a component.
abbrev pub for_part : Dom → pure.Repr
for_part d = default_repr (pure_dom d)

-- What is chosen for a field.
abbrev pub for_field : FieldDom → pure.Repr
for_field f = default_repr (pure_dom (out-FieldDom f).dom)

mapped : {A : Type 0} (g : A → pure.Repr) (xs : List A) (i : ℕ) (rs ts : List Repr) (r : Repr) (x : A) → i < length xs → x ≡ get_or xs i x →
    ts ≡ rs ++ r ∷ [] → map pure_repr rs ≡ map g (take i xs) → pure_repr r ≡ g x → map pure_repr ts ≡ map g (take (i + 1) xs)
mapped g xs i rs ts r x h is e p q =
    ap (map pure_repr) e ∙ map-append pure_repr rs (r ∷ []) ∙ ap (λ l. l ++ pure_repr r ∷ []) p ∙ ap (λ y. map g (take i xs) ++ y ∷ []) q
    ∙ ap (λ y. map g (take i xs) ++ g y ∷ []) is ∙ sym (map-append g (take i xs) (get_or xs i x ∷ [])) ∙ sym (ap (map g) (take_more xs i x h))

pub parts_more : (ds : List Dom) (i : ℕ) (rs ts : List Repr) (r : Repr) (d : Dom) → i < length ds → d ≡ get_or ds i d →
    ts ≡ rs ++ r ∷ [] → map pure_repr rs ≡ map for_part (take i ds) → pure_repr r ≡ default_repr (pure_dom d) →
    map pure_repr ts ≡ map for_part (take (i + 1) ds)
parts_more = mapped for_part

pub fields_more : (fs : List FieldDom) (i : ℕ) (rs ts : List Repr) (r : Repr) (f : FieldDom) → i < length fs → f ≡ get_or fs i f →
    ts ≡ rs ++ r ∷ [] → map pure_repr rs ≡ map for_field (take i fs) → pure_repr r ≡ default_repr (pure_dom (out-FieldDom f).dom) →
    map pure_repr ts ≡ map for_field (take (i + 1) fs)
fields_more = mapped for_field

each-part : (ds : List Dom) → reprs_of (map for_part ds) ≡ default_reprs (pure_doms ds)
each-part [] = refl
each-part (d ∷ ds) = ap (pure.more_reprs (for_part d)) (each-part ds)

each-field : (fs : List FieldDom) → reprs_of (map for_field fs) ≡ default_reprs (doms_of (field_values (map pure_field_dom fs)))
each-field [] = refl
each-field (f ∷ fs) =
    ap (pure.more_reprs (for_field f)) (each-field fs)
    ∙ ap (λ d. pure.more_reprs (default_repr d) (default_reprs (doms_of (field_values (map pure_field_dom fs))))) (sym (ap (λ g. g.1) (pure_field_dom_is f)))

pub parts_all : (ds : List Dom) (i : ℕ) (rs : List Repr) → length ds ≤ i → map pure_repr rs ≡ map for_part (take i ds) →
    kids rs ≡ default_reprs (pure_doms ds)
parts_all ds i rs h p = ap reprs_of p ∙ ap (λ l. reprs_of (map for_part l)) (take_all i ds h) ∙ each-part ds

pub fields_all : (fs : List FieldDom) (i : ℕ) (rs : List Repr) → length fs ≤ i → map pure_repr rs ≡ map for_field (take i fs) →
    kids rs ≡ default_reprs (doms_of (field_values (map pure_field_dom fs)))
fields_all fs i rs h p = ap reprs_of p ∙ ap (λ l. reprs_of (map for_field l)) (take_all i fs h) ∙ each-field fs
