mod SizedRows
mod Listed
mod Examples
