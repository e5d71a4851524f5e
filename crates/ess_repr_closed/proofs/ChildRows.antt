-- The rows of domains that code makes for children.
use Rattle.std.proofs.Common.{◌≡◌, refl, sym, ap, ◌∙◌, ℕ, ◌+◌, ◌<◌, ◌≤◌, List, [], ◌∷◌, ◌++◌, map, take, length, get_or}
use Rattle.std.proofs.lemmas.List.{map-append, take_more, take_all}
use Rattle.ess_semantics.specs.declared.words.ReprKind.{ReprKind}
use Rattle.ess_semantics.specs.Domains as pure
use Rattle.ess_semantics.specs.Domains.{Domain, tuples, functions, domain_list}
use Rattle.ess_eval_domains.specs.declared.closed.Closed.{Closed}
use Rattle.ess_eval_domains.specs.declared.closed.Closed.TheViews.{out-FieldClosed}
use Rattle.ess_eval_domains.specs.declared.closed.FieldClosed.{FieldClosed}
use Rattle.ess_eval_domains.specs.ClosedViews.{domains_of, pure_closed, pure_closeds, pure_field_closed}
use Rattle.ess_eval_domains.proofs.ClosedEquations.{pure_field_closed_is}
use Rattle.ess_repr_layers_laws.specs.LayerParts.{children_of}
use Rattle.ess_repr_closed.specs.ComponentAxes.{component_child}

pub parts_are : (ds : List Closed) → domain_list (pure_closeds ds) ≡ map pure_closed ds
parts_are [] = refl
parts_are (d ∷ ds) = ap (λ l. pure_closed d ∷ l) (parts_are ds)

pub tuple_children : (k : ReprKind) (ds es : List Closed) → k ≡ ReprKind.Tuple → es ≡ ds → map pure_closed es ≡ children_of k (tuples (pure_closeds ds))
tuple_children k ds es h e = ap (map pure_closed) e ∙ sym (ap (λ j. children_of j (tuples (pure_closeds ds))) h ∙ parts_are ds)

-- The domain of a field.
abbrev pub for_field : FieldClosed → Domain
for_field f = pure_closed (out-FieldClosed f).domain

pub fields_more : (fs : List FieldClosed) (i : ℕ) (ds es : List Closed) (f : FieldClosed) → i < length fs → f ≡ get_or fs i f →
    es ≡ ds ++ (out-FieldClosed f).domain ∷ [] → map pure_closed ds ≡ map for_field (take i fs) → map pure_closed es ≡ map for_field (take (i + 1) fs)
fields_more fs i ds es f h is e p =
    ap (map pure_closed) e ∙ map-append pure_closed ds ((out-FieldClosed f).domain ∷ []) ∙ ap (λ l. l ++ for_field f ∷ []) p
    ∙ ap (λ y. map for_field (take i fs) ++ for_field y ∷ []) is ∙ sym (map-append for_field (take i fs) (get_or fs i f ∷ []))
    ∙ sym (ap (map for_field) (take_more fs i f h))

each-field : (fs : List FieldClosed) → map for_field fs ≡ domain_list (domains_of (map (λ f. f.1) (map pure_field_closed fs)))
each-field [] = refl
each-field (f ∷ fs) =
    ap (λ l. for_field f ∷ l) (each-field fs)
    ∙ ap (λ d. d ∷ domain_list (domains_of (map (λ f. f.1) (map pure_field_closed fs)))) (sym (ap (λ g. g.1) (pure_field_closed_is f)))

pub fields_all : (fs : List FieldClosed) (i : ℕ) (ds : List Closed) → length fs ≤ i → map pure_closed ds ≡ map for_field (take i fs) →
    map pure_closed ds ≡ domain_list (domains_of (map (λ f. f.1) (map pure_field_closed fs)))
fields_all fs i ds h p = p ∙ ap (map for_field) (take_all i fs h) ∙ each-field fs

-- ---- arguments that are tuples

nd-child : (ks : List pure.Attribute) (d c : Domain) → component_child d c ≡ children_of ReprKind.FunctionND (functions ks d c)
nd-child ks (tuples ds) c = refl
nd-child ks _ c = refl

partial-child : (ks : List pure.Attribute) (d c : Domain) → component_child d c ≡ children_of ReprKind.FunctionNDPartial (functions ks d c)
partial-child ks (tuples ds) c = refl
partial-child ks _ c = refl

pub child_of_components : (k : ReprKind) (es : List Domain) (ks : List pure.Attribute) (d c : Domain) → k ≡ ReprKind.FunctionND → es ≡ component_child d c →
    es ≡ children_of k (functions ks d c)
child_of_components k es ks d c h e = e ∙ nd-child ks d c ∙ ap (λ j. children_of j (functions ks d c)) (sym h)

pub child_of_flags : (k : ReprKind) (es : List Domain) (ks : List pure.Attribute) (d c : Domain) → k ≡ ReprKind.FunctionNDPartial → es ≡ component_child d c →
    es ≡ children_of k (functions ks d c)
child_of_flags k es ks d c h e = e ∙ partial-child ks d c ∙ ap (λ j. children_of j (functions ks d c)) (sym h)
