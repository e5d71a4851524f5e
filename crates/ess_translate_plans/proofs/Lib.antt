mod Turns
mod Numbers
mod Trying
mod Added
mod SideTables
