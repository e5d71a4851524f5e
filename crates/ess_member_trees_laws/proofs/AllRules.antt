-- What any rule makes of a part of a tree of a membership.
use Rattle.std.proofs.Common.{◌≡◌, refl, sym, subst, Option, Some, None}
use Rattle.ess_semantics.specs.Values.{Text}
use Rattle.ess_semantics.specs.Names.{Names}
use Rattle.ess_semantics.specs.Trees.{Ex, Dom}
use Rattle.ess_semantics.specs.Types.{Ty}
use Rattle.ess_refine_laws.specs.AllRules.{Supply, Rule, rewrite}
use Rattle.ess_flat_laws.specs.ess_open_rules_laws.OpenRules.{KindRuling, of_kind, of_opening, kind_ruled}
use Rattle.ess_gathered_laws.specs.GatheredConditions.{conditions_gathered}
use Rattle.ess_member_trees_laws.specs.Memberships.{Literal, a_number, a_truth, at_number, at_cell, Axis, Part, literal_part, bound_part, name_part, view_part, asked_part, cell_part, named_part, it_part, items_of_set, set_part, items_where, where_part, bare_items, bare_part, bare_both, it_both, items_bare, with_bare_part, items_it, with_it_part, list_part, listed_part, Becomes, Made}
use Rattle.ess_member_trees_laws.proofs.PlainRules as P
use Rattle.ess_member_trees_laws.proofs.KindRules as K
use Rattle.ess_member_trees_laws.proofs.OpenRules as O

module _ (n : Text) (A : Dom) (L : Ex) (ax : Axis A) (l : Literal L) where
  -- What is made is what the part becomes.
  pub made-becomes : {g : Names Ty} {a : Ex} (p : Part n A L g a) (b : Ex) (o : Option Ex) → Made n A L p o → o ≡ Some b → Becomes n A L p b
  made-becomes p b None m e = absurd (no e)
    where
      no : None ≡ Some b → ⊥
      no e = cc
  made-becomes p b (Some c) m e = subst (Becomes n A L p) (of-some e) m
    where
      of-some : Some c ≡ Some b → c ≡ b
      of-some e = cc

  module _ (s : Supply) (g : Names Ty) where
    -- Where nothing is made.
    none-made : {a : Ex} (p : Part n A L g a) {o : Option Ex} → o ≡ None → Made n A L p o
    none-made p e = subst (Made n A L p) (sym e) tt

    pub plainly : (r : Rule) (a : Ex) (p : Part n A L g a) → Made n A L p (rewrite s g r a)
    plainly r a (literal_part q) = none-made (literal_part q) (P.of-literal s g q r)
    plainly r a (bound_part q) = none-made (bound_part q) (P.of-bound s g q r)
    plainly r a (name_part {x = x}) = none-made (name_part {x = x}) (P.of-name s g x r)
    plainly r a view_part = none-made view_part (P.of-view s g n A L r)
    plainly r a asked_part = P.of-asked s g n A L l r
    plainly r a cell_part = none-made cell_part (P.of-cell s g n A L L r)
    plainly r a (named_part {x = x}) = none-made (named_part {x = x}) (P.of-cell s g n A L _ r)
    plainly r a (it_part {x = x} h) = none-made (it_part {x = x} h) (P.of-it s g n A L l x h r)
    plainly r a (items_of_set {x = x}) = none-made (items_of_set {x = x}) (P.of-set-items s g n A L _ x r)
    plainly r a (set_part {x = x}) = none-made (set_part {x = x}) (P.of-set s g n A L _ x r)
    plainly r a (items_where {x = x}) = none-made (items_where {x = x}) (P.of-items-where s g n ax _ _ x r)
    plainly r a (where_part {x = x}) = P.of-where s g n ax l x r
    plainly r a (bare_items {x = x}) = none-made (bare_items {x = x}) (P.of-bare-items s g n _ r)
    plainly r a (bare_part {x = x}) = P.of-bare s g n A L x r
    plainly r a (bare_both {x = x}) = none-made (bare_both {x = x}) (P.of-both s g n A L _ _ r)
    plainly r a (it_both {x = x}) = none-made (it_both {x = x}) (P.of-both s g n A L _ _ r)
    plainly r a (items_bare {x = x}) = none-made (items_bare {x = x}) (P.of-items s g n ax _ x r)
    plainly r a (with_bare_part {x = x}) = none-made (with_bare_part {x = x}) (P.of-fold s g n ax L _ x r)
    plainly r a (items_it {x = x}) = none-made (items_it {x = x}) (P.of-items s g n ax _ x r)
    plainly r a (with_it_part {x = x}) = none-made (with_it_part {x = x}) (P.of-fold s g n ax L _ x r)
    plainly r a (list_part {e = e} o) = none-made (list_part o) (P.of-list s g n e r)
    plainly r a (listed_part {e = e} o) = P.of-alone s g n A L e o r

    pub by-kind : (r : KindRuling) (a : Ex) (p : Part n A L g a) → Made n A L p (kind_ruled s g r a)
    by-kind (of_kind r) a (literal_part q) = none-made (literal_part q) (K.of-literal s g q r)
    by-kind (of_kind r) a (bound_part q) = none-made (bound_part q) (K.of-bound s g q r)
    by-kind (of_kind r) a (name_part {x = x}) = none-made (name_part {x = x}) (K.of-name s g x r)
    by-kind (of_kind r) a view_part = none-made view_part (K.of-view s g n A L r)
    by-kind (of_kind r) a asked_part = K.of-asked s g n A L l r
    by-kind (of_kind r) a cell_part = none-made cell_part (K.of-cell s g n A L L r)
    by-kind (of_kind r) a (named_part {x = x}) = none-made (named_part {x = x}) (K.of-cell s g n A L _ r)
    by-kind (of_kind r) a (it_part {x = x} h) = none-made (it_part {x = x} h) (K.of-it s g n A L l x r)
    by-kind (of_kind r) a (items_of_set {x = x}) = none-made (items_of_set {x = x}) (K.of-comp s g n _ r _)
    by-kind (of_kind r) a (set_part {x = x}) = K.of-set s g n A L l x r
    by-kind (of_kind r) a (items_where {x = x}) = none-made (items_where {x = x}) (K.of-comp s g n _ r _)
    by-kind (of_kind r) a (where_part {x = x}) = none-made (where_part {x = x}) (K.of-fold s g n A A L _ x _ r)
    by-kind (of_kind r) a (bare_items {x = x}) = none-made (bare_items {x = x}) (K.of-comp s g n _ r _)
    by-kind (of_kind r) a (bare_part {x = x}) = none-made (bare_part {x = x}) (K.of-bare s g n A L _ r)
    by-kind (of_kind r) a (bare_both {x = x}) = none-made (bare_both {x = x}) (K.of-bare-both s g n A L _ _ x r)
    by-kind (of_kind r) a (it_both {x = x}) = none-made (it_both {x = x}) (K.of-it-both s g n A L _ x r)
    by-kind (of_kind r) a (items_bare {x = x}) = none-made (items_bare {x = x}) (K.of-comp s g n _ r _)
    by-kind (of_kind r) a (with_bare_part {x = x}) = none-made (with_bare_part {x = x}) (K.of-fold s g n A A L _ x _ r)
    by-kind (of_kind r) a (items_it {x = x}) = none-made (items_it {x = x}) (K.of-comp s g n _ r _)
    by-kind (of_kind r) a (with_it_part {x = x}) = none-made (with_it_part {x = x}) (K.of-fold s g n A A L _ x _ r)
    by-kind (of_kind r) a (list_part {e = e} o) = none-made (list_part o) (K.of-list s g n A L e o r)
    by-kind (of_kind r) a (listed_part {e = e} o) = none-made (listed_part o) (K.of-alone s g n A L e r)
    by-kind (of_opening r) a (literal_part q) = none-made (literal_part q) (O.of-literal s g q r)
    by-kind (of_opening r) a (bound_part q) = none-made (bound_part q) (O.of-bound s g q r)
    by-kind (of_opening r) a (name_part {x = x}) = none-made (name_part {x = x}) (O.of-name s g x r)
    by-kind (of_opening r) a view_part = none-made view_part (O.of-view s g n A L r)
    by-kind (of_opening r) a asked_part = none-made asked_part (O.of-asked s g n A L l r)
    by-kind (of_opening r) a cell_part = none-made cell_part (O.of-cell s g n A L L r)
    by-kind (of_opening r) a (named_part {x = x}) = none-made (named_part {x = x}) (O.of-cell s g n A L _ r)
    by-kind (of_opening r) a (it_part {x = x} h) = none-made (it_part {x = x} h) (O.of-it s g n A L l x r)
    by-kind (of_opening r) a (items_of_set {x = x}) = none-made (items_of_set {x = x}) (O.of-set-items s g n A L _ x r)
    by-kind (of_opening r) a (set_part {x = x}) = O.of-set s g n A L l x r
    by-kind (of_opening r) a (items_where {x = x}) = none-made (items_where {x = x}) (O.of-items-where s g n ax _ _ x r)
    by-kind (of_opening r) a (where_part {x = x}) = none-made (where_part {x = x}) (O.of-where s g n ax L _ _ x r)
    by-kind (of_opening r) a (bare_items {x = x}) = none-made (bare_items {x = x}) (O.of-bare-items s g n _ r)
    by-kind (of_opening r) a (bare_part {x = x}) = none-made (bare_part {x = x}) (O.of-bare s g n A L _ r)
    by-kind (of_opening r) a (bare_both {x = x}) = none-made (bare_both {x = x}) (O.of-bare-both s g n A L _ _ x r)
    by-kind (of_opening r) a (it_both {x = x}) = none-made (it_both {x = x}) (O.of-it-both s g n A L _ x r)
    by-kind (of_opening r) a (items_bare {x = x}) = none-made (items_bare {x = x}) (O.of-items s g n ax _ x r)
    by-kind (of_opening r) a (with_bare_part {x = x}) = none-made (with_bare_part {x = x}) (O.of-fold s g n ax L _ x r)
    by-kind (of_opening r) a (items_it {x = x}) = none-made (items_it {x = x}) (O.of-items s g n ax _ x r)
    by-kind (of_opening r) a (with_it_part {x = x}) = none-made (with_it_part {x = x}) (O.of-fold s g n ax L _ x r)
    by-kind (of_opening r) a (list_part {e = e} o) = none-made (list_part o) (O.of-list s g n A L e o r)
    by-kind (of_opening r) a (listed_part {e = e} o) = none-made (listed_part o) (O.of-alone s g n A L e r)

  -- No conditions are gathered.
  pub gathered : (g : Names Ty) (a : Ex) → Part n A L g a → conditions_gathered a ≡ None
  gathered g a (literal_part a_number) = refl
  gathered g a (literal_part a_truth) = refl
  gathered g a (bound_part at_number) = refl
  gathered g a (bound_part at_cell) = refl
  gathered g a name_part = refl
  gathered g a view_part = refl
  gathered g a asked_part = refl
  gathered g a cell_part = refl
  gathered g a named_part = refl
  gathered g a (it_part h) = refl
  gathered g a items_of_set = refl
  gathered g a set_part = refl
  gathered g a items_where = refl
  gathered g a where_part = refl
  gathered g a bare_items = refl
  gathered g a bare_part = refl
  gathered g a bare_both = refl
  gathered g a it_both = refl
  gathered g a items_bare = refl
  gathered g a with_bare_part = refl
  gathered g a items_it = refl
  gathered g a with_it_part = refl
  gathered g a (list_part o) = refl
  gathered g a (listed_part o) = refl
