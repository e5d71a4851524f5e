-- The number of members of tuples.
use Rattle.std.specs.Prelude.{ℕ, ◌*◌, length}
use Rattle.ess_semantics.specs.Domains.{Domains, no_domains, more_domains, member_list}

-- The product of the numbers of members.
abbrev pub member_product : Domains → ℕ
member_product no_domains = 1
member_product (more_domains d ds) = length (member_list d) * member_product ds
