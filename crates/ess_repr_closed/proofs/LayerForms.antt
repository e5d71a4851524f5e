-- What layers have, form by form of the domain.
use Rattle.std.proofs.Common.{◌≡◌, refl, sym, ap, ◌∙◌, ℕ, List, []}
use Rattle.ess_semantics.specs.declared.words.ReprKind.{ReprKind}
use Rattle.ess_semantics.specs.Values.{Text}
use Rattle.ess_semantics.specs.Domains as pure
use Rattle.ess_semantics.specs.Domains.{Domain, Domains, booleans, integers, named, tuples, records, matrices, functions, relations, partitions}
use Rattle.ess_semantics.specs.Cells.{Axes}
use Rattle.ess_eval_domains.specs.declared.closed.Span.{Span}
use Rattle.ess_eval_domains.specs.declared.closed.Attribute.{Attribute}
use Rattle.ess_eval_domains.specs.declared.closed.Closed.{Closed}
use Rattle.ess_eval_domains.specs.declared.closed.Closed.TheVariants as variant
use Rattle.ess_eval_domains.specs.declared.closed.FieldClosed.{FieldClosed}
use Rattle.ess_eval_domains.specs.ClosedViews.{pure_closed}
use Rattle.ess_eval_domains.proofs.ClosedEquations.{pure_closed_bool, pure_closed_int, pure_closed_named, pure_closed_tuple, pure_closed_rec, pure_closed_matrix, pure_closed_relation, pure_closed_partition}
use Rattle.ess_repr_layers_laws.specs.LayerParts.{children_of, front_axes, own_axes_of}
use Rattle.ess_repr_closed.specs.ComponentAxes.{component_axes, component_flags}

-- ---- no axes before a child's

bool-front : (k : ReprKind) → front_axes k booleans ≡ []
bool-front ReprKind.Atom = refl
bool-front _ = refl

int-front : (k : ReprKind) (ss : List pure.Span) → front_axes k (integers ss) ≡ []
int-front ReprKind.Atom ss = refl
int-front _ ss = refl

named-front : (k : ReprKind) (t : Text) (n : ℕ) → front_axes k (named t n) ≡ []
named-front ReprKind.Atom t n = refl
named-front _ t n = refl

tuple-front : (k : ReprKind) (ds : Domains) → front_axes k (tuples ds) ≡ []
tuple-front ReprKind.Tuple ds = refl
tuple-front _ ds = refl

record-front : (k : ReprKind) (fs : List Text) (ds : Domains) → front_axes k (records fs ds) ≡ []
record-front ReprKind.Rec fs ds = refl
record-front _ fs ds = refl

relation-front : (k : ReprKind) (ks : List pure.Attribute) (ds : Domains) → front_axes k (relations ks ds) ≡ []
relation-front ReprKind.RelationAsMatrix ks ds = refl
relation-front _ ks ds = refl

partition-front : (k : ReprKind) (ks : List pure.Attribute) (d : Domain) → front_axes k (partitions ks d) ≡ []
partition-front ReprKind.PartitionAsSet ks d = refl
partition-front _ ks d = refl

pub no_front_of_bool : (k : ReprKind) → front_axes k (pure_closed variant.Bool) ≡ []
no_front_of_bool k = ap (front_axes k) pure_closed_bool ∙ bool-front k

pub no_front_of_int : (k : ReprKind) (ss : List Span) → front_axes k (pure_closed (variant.Int ss)) ≡ []
no_front_of_int k ss = ap (front_axes k) (pure_closed_int ss) ∙ int-front k _

pub no_front_of_named : (k : ReprKind) (t : Text) (n : ℕ) → front_axes k (pure_closed (variant.Named t n)) ≡ []
no_front_of_named k t n = ap (front_axes k) (pure_closed_named t n) ∙ named-front k t n

pub no_front_of_tuple : (k : ReprKind) (ds : List Closed) → front_axes k (pure_closed (variant.Tuple ds)) ≡ []
no_front_of_tuple k ds = ap (front_axes k) (pure_closed_tuple ds) ∙ tuple-front k _

pub no_front_of_record : (k : ReprKind) (fs : List FieldClosed) → front_axes k (pure_closed (variant.Rec fs)) ≡ []
no_front_of_record k fs = ap (front_axes k) (pure_closed_rec fs) ∙ record-front k _ _

pub no_front_of_relation : (k : ReprKind) (ks : List Attribute) (ds : List Closed) → front_axes k (pure_closed (variant.Relation ks ds)) ≡ []
no_front_of_relation k ks ds = ap (front_axes k) (pure_closed_relation ks ds) ∙ relation-front k _ _

pub no_front_of_partition : (k : ReprKind) (ks : List Attribute) (d : Closed) → front_axes k (pure_closed (variant.Partition ks d)) ≡ []
no_front_of_partition k ks d = ap (front_axes k) (pure_closed_partition ks d) ∙ partition-front k _ _

-- ---- arguments that are tuples

nd-front : (ks : List pure.Attribute) (d c : Domain) → component_axes d ≡ front_axes ReprKind.FunctionND (functions ks d c)
nd-front ks (tuples ds) c = refl
nd-front ks _ c = refl

partial-front : (ks : List pure.Attribute) (d c : Domain) → component_axes d ≡ front_axes ReprKind.FunctionNDPartial (functions ks d c)
partial-front ks (tuples ds) c = refl
partial-front ks _ c = refl

partial-flags : (ks : List pure.Attribute) (d c : Domain) → component_flags d ≡ own_axes_of ReprKind.FunctionNDPartial (functions ks d c)
partial-flags ks (tuples ds) c = refl
partial-flags ks _ c = refl

pub front_of_components : (k : ReprKind) (r : Axes) (ks : List pure.Attribute) (d c : Domain) → k ≡ ReprKind.FunctionND → r ≡ component_axes d →
    r ≡ front_axes k (functions ks d c)
front_of_components k r ks d c h e = e ∙ nd-front ks d c ∙ ap (λ j. front_axes j (functions ks d c)) (sym h)

pub front_of_arguments : (k : ReprKind) (r : Axes) (ks : List pure.Attribute) (d c : Domain) → k ≡ ReprKind.FunctionNDPartial → r ≡ component_axes d →
    r ≡ front_axes k (functions ks d c)
front_of_arguments k r ks d c h e = e ∙ partial-front ks d c ∙ ap (λ j. front_axes j (functions ks d c)) (sym h)

pub flags_of_components : (k : ReprKind) (r : List Axes) (ks : List pure.Attribute) (d c : Domain) → k ≡ ReprKind.FunctionNDPartial → r ≡ component_flags d →
    r ≡ own_axes_of k (functions ks d c)
flags_of_components k r ks d c h e = e ∙ partial-flags ks d c ∙ ap (λ j. own_axes_of j (functions ks d c)) (sym h)

-- ---- no own tables

tuple-own : (k : ReprKind) (ds : Domains) → own_axes_of k (tuples ds) ≡ []
tuple-own ReprKind.Tuple ds = refl
tuple-own _ ds = refl

record-own : (k : ReprKind) (fs : List Text) (ds : Domains) → own_axes_of k (records fs ds) ≡ []
record-own ReprKind.Rec fs ds = refl
record-own _ fs ds = refl

matrix-own : (k : ReprKind) (is : Domains) (d : Domain) → own_axes_of k (matrices is d) ≡ []
matrix-own ReprKind.Matrix is d = refl
matrix-own _ is d = refl

pub no_own_of_tuple : (k : ReprKind) (ds : List Closed) → own_axes_of k (pure_closed (variant.Tuple ds)) ≡ []
no_own_of_tuple k ds = ap (own_axes_of k) (pure_closed_tuple ds) ∙ tuple-own k _

pub no_own_of_record : (k : ReprKind) (fs : List FieldClosed) → own_axes_of k (pure_closed (variant.Rec fs)) ≡ []
no_own_of_record k fs = ap (own_axes_of k) (pure_closed_rec fs) ∙ record-own k _ _

pub no_own_of_matrix : (k : ReprKind) (is : List Closed) (d : Closed) → own_axes_of k (pure_closed (variant.Matrix is d)) ≡ []
no_own_of_matrix k is d = ap (own_axes_of k) (pure_closed_matrix is d) ∙ matrix-own k _ _

-- ---- atoms have the same axes

int-own : (k : ReprKind) (ss : List pure.Span) → own_axes_of k booleans ≡ own_axes_of k (integers ss)
int-own ReprKind.Atom ss = refl
int-own _ ss = refl

named-own : (k : ReprKind) (t : Text) (n : ℕ) → own_axes_of k booleans ≡ own_axes_of k (named t n)
named-own ReprKind.Atom t n = refl
named-own _ t n = refl

pub own_of_int : (k : ReprKind) (r : List Axes) (ss : List Span) → r ≡ own_axes_of k booleans → r ≡ own_axes_of k (pure_closed (variant.Int ss))
own_of_int k r ss e = e ∙ int-own k _ ∙ ap (own_axes_of k) (sym (pure_closed_int ss))

pub own_of_named : (k : ReprKind) (r : List Axes) (t : Text) (n : ℕ) → r ≡ own_axes_of k booleans → r ≡ own_axes_of k (pure_closed (variant.Named t n))
own_of_named k r t n e = e ∙ named-own k t n ∙ ap (own_axes_of k) (sym (pure_closed_named t n))

-- ---- atoms have no children

bool-child : (k : ReprKind) → children_of k booleans ≡ []
bool-child ReprKind.Atom = refl
bool-child _ = refl

int-child : (k : ReprKind) (ss : List pure.Span) → children_of k (integers ss) ≡ []
int-child ReprKind.Atom ss = refl
int-child _ ss = refl

named-child : (k : ReprKind) (t : Text) (n : ℕ) → children_of k (named t n) ≡ []
named-child ReprKind.Atom t n = refl
named-child _ t n = refl

pub no_child_of_bool : (k : ReprKind) → children_of k (pure_closed variant.Bool) ≡ []
no_child_of_bool k = ap (children_of k) pure_closed_bool ∙ bool-child k

pub no_child_of_int : (k : ReprKind) (ss : List Span) → children_of k (pure_closed (variant.Int ss)) ≡ []
no_child_of_int k ss = ap (children_of k) (pure_closed_int ss) ∙ int-child k _

pub no_child_of_named : (k : ReprKind) (t : Text) (n : ℕ) → children_of k (pure_closed (variant.Named t n)) ≡ []
no_child_of_named k t n = ap (children_of k) (pure_closed_named t n) ∙ named-child k t n
