mod OneCells
mod ExactSizes
mod Examples
