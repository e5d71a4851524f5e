-- Worked examples
mod ExamplesViews
