-- What is known of the layer of a kind over a domain: its own tables, its axes, and its children, as trees and as they are denoted.
use Rattle.std.proofs.Common.{◌≡◌, refl, Bool, true, false, if◌then◌else◌, List, [], ◌∷◌, map, ℕ, suc, pos, Option, Some, None, arith}
use Rattle.std.specs.Prelude.{int_le}
use Rattle.std.proofs.lemmas.Bool.{le-leb}
use Rattle.ess_semantics.specs.declared.words.ReprKind.{ReprKind}
use Rattle.ess_semantics.specs.Lists.{each_of, or_else}
use Rattle.ess_semantics.specs.declared.words.Key.{Key}
use Rattle.ess_semantics.specs.Domains.{Attribute, Domain, Domains, no_domains, more_domains, domain_list, attribute, has}
use Rattle.ess_semantics.specs.Membership.{no_negative_attribute, each_layer_of_all}
use Rattle.ess_semantics.specs.Sizes.{bound, size_attributes, pair_sizes}
use Rattle.ess_semantics.specs.Kinds.{dom_list}
use Rattle.ess_semantics.specs.Trees.{Dom, Doms, no_doms, more_doms}
use Rattle.ess_semantics.specs.Cells.{Axes}
use Rattle.ess_semantics.specs.Layers.{Layer, fixed_table, widened_table}
use Rattle.ess_semantics.specs.Representations.{layer}
use Rattle.ess_semantics.specs.TableNames.{Named, child_names, numbered_names}
use Rattle.ess_semantics.specs.Declarations.{declared_own, leaves_out}
use Rattle.ess_semantics.specs.Meaning.{Env, domain_of}
use Rattle.ess_semantics.proofs.Tests.{and-left, and-right, and-both}
use Rattle.ess_repr_declare_laws.specs.ChildDomains.{child_doms}
use Rattle.ess_repr_declare_laws.specs.DeclaredTrees.{decl, widened_if, own_trees, layer_axes, frees_children}
use Rattle.ess_repr_declare_laws.proofs.SizeNumbers.{not_below}
use Rattle.ess_repr_members_laws.specs.Fields.{Fielded, AllFielded}
use Rattle.ess_repr_members_laws.proofs.TableLists.{Ranged, Denoted}
use Rattle.ess_repr_members_laws.proofs.SizeDomains.{wide_if}

-- ---- children

-- No attribute value in the domains is below 0.
abbrev pub EachPlain : List Domain → Type 0
EachPlain [] = Unit {0}
EachPlain (x ∷ xs) = (no_negative_attribute x ≡ true) × EachPlain xs

pub all-plain : (xs : Domains) → each_layer_of_all not_below xs ≡ true → EachPlain (domain_list xs)
all-plain no_domains h = tt
all-plain (more_domains x xs) h = (
  and-left (no_negative_attribute x) (each_layer_of_all not_below xs) h,
  all-plain xs (and-right (no_negative_attribute x) (each_layer_of_all not_below xs) h),
)

-- Each domain's records have their components.
abbrev pub EachFielded : List Dom → Type 0
EachFielded [] = Unit {0}
EachFielded (d ∷ ds) = Fielded d × EachFielded ds

pub each-fielded : (ts : Doms) → AllFielded ts → EachFielded (dom_list ts)
each-fielded no_doms h = tt
each-fielded (more_doms d ts) h = (h.0, each-fielded ts h.1)

-- There is a name for each domain.
abbrev pub Paired : List Named → List Dom → Type 0
Paired [] [] = Unit {0}
Paired (n ∷ ns) (d ∷ ds) = Paired ns ds
Paired _ ds = ⊥

pub numbered-paired : (k : ℕ) (ds : List Dom) → Paired (numbered_names k ds) ds
numbered-paired k [] = tt
numbered-paired k (d ∷ ds) = numbered-paired (suc k) ds

-- ---- the attributes of constructed children

-- A number isn't below 0.
low : (n : ℕ) → int_le (pos 0) (pos n) ≡ true
low n = le-leb 0 n (omega arith)

greatest-plain : (b : Option ℕ) → not_below (size_attributes None None b) ≡ true
greatest-plain None = refl
greatest-plain (Some x) = and-both (int_le (pos 0) (pos x)) true (low x) refl

least-plain : (a b : Option ℕ) → not_below (size_attributes None a b) ≡ true
least-plain None b = greatest-plain b
least-plain (Some x) b = and-both (int_le (pos 0) (pos x)) (not_below (size_attributes None None b)) (low x) (greatest-plain b)

-- Sizes that are made of numbers aren't below 0.
pub sizes-plain : (s a b : Option ℕ) → not_below (size_attributes s a b) ≡ true
sizes-plain None a b = least-plain a b
sizes-plain (Some x) a b = and-both (int_le (pos 0) (pos x)) (not_below (size_attributes None a b)) (low x) (least-plain a b)

pub pairs-plain : (ks : List Attribute) (x : Domain) → not_below (pair_sizes ks x) ≡ true
pairs-plain ks x = go (has Key.Total ks)
  where
    greatest : Option ℕ
    greatest = if has Key.Size ks then attribute Key.MaxSize ks else or_else (attribute Key.MaxSize ks) (Some (bound x))

    go : (t : Bool) → not_below (if t then size_attributes (Some (bound x)) (attribute Key.MinSize ks) (attribute Key.MaxSize ks)
        else size_attributes (attribute Key.Size ks) (attribute Key.MinSize ks) greatest) ≡ true
    go true = sizes-plain (Some (bound x)) (attribute Key.MinSize ks) (attribute Key.MaxSize ks)
    go false = sizes-plain (attribute Key.Size ks) (attribute Key.MinSize ks) greatest

-- ---- own tables

-- A table of a fixed domain is denoted, whether its cells can be out of use or not.
pub own-fixed : (env : Env) (as' : List Dom) (bs : Axes) (c : Dom) (x : Domain) → Ranged env as' bs → domain_of c env ≡ Some x →
    (out : Bool) →
    Denoted env (decl [] as' c ∷ []) (map (declared_own out) (fixed_table bs x ∷ []))
own-fixed env as' bs c x r h true = (r, h, tt)
own-fixed env as' bs c x r h false = (r, h, tt)

-- ---- layers

-- What is known of the layer of a kind.
pub record LaidOut (env : Env) (k : ReprKind) (d : Dom) (e : Domain) : Type 0 where
  pub over : Layer
  pub there : layer k e ≡ Some over
  -- its own tables and its axes are the trees
  pub own : (out : Bool) → Denoted env (own_trees out k d) (map (declared_own out) over.own)
  pub axes : Ranged env (layer_axes k d) over.axes
  -- its children's cells can be out of use where the trees say so
  pub frees : leaves_out over.in_use ≡ frees_children k
  -- its children are denoted, and each has a name
  pub children : each_of (child_doms k d) (λ c. domain_of c env) ≡ Some over.children
  pub plain : EachPlain over.children
  pub fielded : EachFielded (child_doms k d)
  pub named : Paired (child_names k d) (child_doms k d)

-- A condition that has an answer is true.
pub if-there : {A : Type 0} (b : Bool) (x y : A) → (if b then Some x else None) ≡ Some y → b ≡ true
if-there true x y h = refl
if-there false x y h = cc
