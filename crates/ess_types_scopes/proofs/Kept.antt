-- What is kept for a name.
use Rattle.std.proofs.Common.{◌≡◌, ap, ◌∙◌, List, [], ◌∷◌, ◌++◌, None, String, string_bytes}
use Rattle.std.specs.List.{IsDistinct}
use Rattle.std.specs.Map.{lookup, keys_of}
use Rattle.std.specs.Str.{bytes_eq}
use Rattle.std.specs.String.{string_eq}
use Rattle.indexmap.specs.IndexMap.{insert_entry}
use Rattle.ess_semantics.specs.Values.{Text}
use Rattle.ess_semantics.specs.Names.{look}
use Rattle.ess_core.specs.TreeViews.{pure_ex, pure_dom}
use Rattle.ess_core.specs.declared.expressions.Ex.{Ex}
use Rattle.ess_core.specs.declared.domains.Dom.{Dom}
use Rattle.ess_types_names.specs.Maps.{entries_of, newest_first}
use Rattle.ess_types_names.proofs.Maps.{entry_none, entry_inserted, newest_pushed}
use Rattle.ess_types_scopes.specs.Kept.{Kept, pure_lettings, with_ex, with_dom}
use Rattle.ess_types_scopes.specs.declared.added.Added.{Added}
use Rattle.ess_types_scopes.specs.declared.added.Added.TheVariants.{New}

-- No expression is kept.
pub ex_none : {A : Type 0} (es : List (String A × Ex)) (a : Text) → IsDistinct string_eq (keys_of es) → None ≡ lookup (λ k. bytes_eq a (string_bytes k)) es
    → None ≡ look (newest_first pure_ex (entries_of es)) a
ex_none = entry_none pure_ex

-- No domain is kept.
pub dom_none : {A : Type 0} (es : List (String A × Dom)) (a : Text) → IsDistinct string_eq (keys_of es) → None ≡ lookup (λ k. bytes_eq a (string_bytes k)) es
    → None ≡ look (newest_first pure_dom (entries_of es)) a
dom_none = entry_none pure_dom

-- An expression of a new name is put behind the others.
pub ex_inserted : {A : Type 0} (es fs : List (String A × Ex)) (k : String A) (a : Text) (e : Ex) → IsDistinct string_eq (keys_of es)
    → look (newest_first pure_ex (entries_of es)) a ≡ None → string_bytes k ≡ a → fs ≡ insert_entry string_eq es k e
    → entries_of fs ≡ entries_of es ++ (a, e) ∷ []
ex_inserted = entry_inserted pure_ex

-- A domain of a new name is put behind the others.
pub dom_inserted : {A : Type 0} (es fs : List (String A × Dom)) (k : String A) (a : Text) (d : Dom) → IsDistinct string_eq (keys_of es)
    → look (newest_first pure_dom (entries_of es)) a ≡ None → string_bytes k ≡ a → fs ≡ insert_entry string_eq es k d
    → entries_of fs ≡ entries_of es ++ (a, d) ∷ []
dom_inserted = entry_inserted pure_dom

-- A letting of an expression that is kept is the newest.
pub ex_kept : (l m : Kept) (a : Text) (e : Ex) (r : Added) → m ≡ with_ex r l a e → r ≡ New
    → pure_lettings m ≡ record (pure_lettings l) { exs = (a, pure_ex e) ∷ (pure_lettings l).exs }
ex_kept l m a e r p q =
    ap pure_lettings (p ∙ ap (λ r. with_ex r l a e) q) ∙ ap (λ x. record (pure_lettings l) { exs = x }) (newest_pushed pure_ex l.exs a e)

-- A letting of a domain that is kept is the newest.
pub dom_kept : (l m : Kept) (a : Text) (d : Dom) (r : Added) → m ≡ with_dom r l a d → r ≡ New
    → pure_lettings m ≡ record (pure_lettings l) { doms = (a, pure_dom d) ∷ (pure_lettings l).doms }
dom_kept l m a d r p q =
    ap pure_lettings (p ∙ ap (λ r. with_dom r l a d) q) ∙ ap (λ x. record (pure_lettings l) { doms = x }) (newest_pushed pure_dom l.doms a d)
