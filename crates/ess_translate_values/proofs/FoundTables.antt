-- Tables found by their names, one after the other.
use Rattle.std.proofs.Common.{◌≡◌, refl, sym, ap, ◌∙◌, ℕ, ◌+◌, ◌<◌, ◌≤◌, true, false, if◌then◌else◌, List, [], ◌∷◌, ◌++◌, map, length, drop, get_or, Option, Some, None, option_map}
use Rattle.std.proofs.lemmas.List.{at_drop_more, at_drop_all, map_push}
use Rattle.ess_semantics.specs.Lists.{and_then}
use Rattle.ess_semantics.specs.Values.{Text}
use Rattle.ess_semantics.specs.Order.{same_text}
use Rattle.ess_semantics.specs.Names.{Names, look, keys}
use Rattle.ess_semantics.specs.Tables as pure
use Rattle.ess_semantics.specs.Meaning.{tables_in}
use Rattle.ess_core.specs.declared.tables.Table.{Table}
use Rattle.ess_core.specs.declared.tables.NamedTable.{NamedTable}
use Rattle.ess_core.specs.TableViews.{pure_table, pure_named_table}
use Rattle.ess_translate_layers.proofs.Found.{ahead, ahead-nothing, ahead-all, ahead-one}
use Rattle.ess_translate_plans.specs.declared.plans.TableName.{TableName}
use Rattle.ess_translate_plans.specs.Views.{pure_table_name}

-- ---- one name

-- What is found from the i-th table on.
abbrev found_from : Text → List NamedTable → Option pure.Table
found_from n cells = look (map pure_named_table cells) n

pub look_none : (n : Text) (cells : List NamedTable) → look (map pure_named_table cells) n ≡ look (map pure_named_table (drop 0 cells)) n
look_none n cells = refl

next-look : (n : Text) (cells : List NamedTable) (i : ℕ) (c e : NamedTable) → i < length cells → c ≡ get_or cells i e →
    found_from n (drop i cells) ≡ (if same_text c.name n then Some (pure_table c.table) else found_from n (drop (i + 1) cells))
next-look n cells i c e h is =
    at_drop_more (found_from n) cells i e h
    ∙ ap (λ d. if same_text d.name n then Some (pure_table d.table) else found_from n (drop (i + 1) cells)) (sym is)

pub look_other : (n : Text) (cells : List NamedTable) (i : ℕ) (c e : NamedTable) → i < length cells → c ≡ get_or cells i e →
    false ≡ same_text c.name n →
    look (map pure_named_table cells) n ≡ look (map pure_named_table (drop i cells)) n →
    look (map pure_named_table cells) n ≡ look (map pure_named_table (drop (i + 1) cells)) n
look_other n cells i c e h is b p =
    p ∙ next-look n cells i c e h is ∙ ap (λ b. if b then Some (pure_table c.table) else found_from n (drop (i + 1) cells)) (sym b)

pub look_here : (n : Text) (cells : List NamedTable) (i : ℕ) (c e : NamedTable) (t : Table) → i < length cells → c ≡ get_or cells i e →
    true ≡ same_text c.name n →
    pure_table t ≡ pure_table c.table → look (map pure_named_table cells) n ≡ look (map pure_named_table (drop i cells)) n →
    Some (pure_table t) ≡ look (map pure_named_table cells) n
look_here n cells i c e t h is b q p =
    ap (λ x. Some x) q
    ∙ sym (p ∙ next-look n cells i c e h is ∙ ap (λ b. if b then Some (pure_table c.table) else found_from n (drop (i + 1) cells)) (sym b))

pub look_all : (n : Text) (cells : List NamedTable) (i : ℕ) → length cells ≤ i →
    look (map pure_named_table cells) n ≡ look (map pure_named_table (drop i cells)) n → None ≡ look (map pure_named_table cells) n
look_all n cells i h p = sym (p ∙ at_drop_all (found_from n) cells i h)

-- ---- several names

abbrev all_found : Names pure.Table → List TableName → Option (List pure.Table)
all_found c names = tables_in c (keys (map pure_table_name names))

-- The tables of the first i names.
pub record TablesSoFar (names : List TableName) (c : Names pure.Table) (i : ℕ) (tables : List Table) : Type 0 where
  pub so_far : tables_in c (keys (map pure_table_name names)) ≡ ahead (map pure_table tables)
      (tables_in c (keys (map pure_table_name (drop i names))))

pub tables_none : (names : List TableName) (c : Names pure.Table) → TablesSoFar names c 0 []
tables_none names c = record { so_far = ahead-nothing (all_found c names) }

next-table : (names : List TableName) (c : Names pure.Table) (i : ℕ) (n e : TableName) (tables : List Table) → i < length names →
    n ≡ get_or names i e → TablesSoFar names c i tables →
    all_found c names ≡
    ahead (map pure_table tables) (and_then (look c n.name) (λ t. option_map (λ ts. t ∷ ts) (all_found c (drop (i + 1) names))))
next-table names c i n e tables h is s =
    s.so_far
    ∙ ap (ahead (map pure_table tables)) (at_drop_more (all_found c) names i e h
    ∙ ap (λ m. and_then (look c m.name) (λ t. option_map (λ ts. t ∷ ts) (all_found c (drop (i + 1) names)))) (sym is))

pub tables_more : (names : List TableName) (c : Names pure.Table) (i : ℕ) (n e : TableName) (tables tables' : List Table) (t : Table) →
    i < length names → n ≡ get_or names i e →
    Some (pure_table t) ≡ look c n.name → tables' ≡ tables ++ t ∷ [] → TablesSoFar names c i tables → TablesSoFar names c (i + 1) tables'
tables_more names c i n e tables tables' t h is q g s = record {
  so_far =
      next-table names c i n e tables h is s
      ∙ ap (λ o. ahead (map pure_table tables) (and_then o (λ t. option_map (λ ts. t ∷ ts) (all_found c (drop (i + 1) names))))) (sym q)
      ∙ ahead-one (map pure_table tables) (pure_table t) (all_found c (drop (i + 1) names))
      ∙ ap (λ l. ahead l (all_found c (drop (i + 1) names))) (sym (ap (map pure_table) g ∙ map_push pure_table tables t));
}

pub tables_stop : (names : List TableName) (c : Names pure.Table) (i : ℕ) (n e : TableName) (tables : List Table) → i < length names →
    n ≡ get_or names i e →
    None ≡ look c n.name → TablesSoFar names c i tables → None ≡ tables_in c (keys (map pure_table_name names))
tables_stop names c i n e tables h is q s =
    ap (λ o. ahead (map pure_table tables) (and_then o (λ t. option_map (λ ts. t ∷ ts) (all_found c (drop (i + 1) names))))) q
    ∙ sym (next-table names c i n e tables h is s)

pub tables_all : (names : List TableName) (c : Names pure.Table) (i : ℕ) (tables : List Table) → length names ≤ i →
    TablesSoFar names c i tables →
    Some (map pure_table tables) ≡ tables_in c (keys (map pure_table_name names))
tables_all names c i tables h s =
    sym (ahead-all (map pure_table tables)) ∙ ap (ahead (map pure_table tables)) (sym (at_drop_all (all_found c) names i h)) ∙ sym s.so_far
