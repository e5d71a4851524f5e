-- Forms stay
mod ResolvedForms
-- Names
mod FreeUses
-- Statements
mod JudgedViews
-- Worked examples
mod Examples
