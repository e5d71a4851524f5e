-- Operands by their places
mod Places
