-- What `size` asks by itself, and the kind of atoms
pub mod SizeKeys
