-- What the contracts of look-ups by halves say beside the definitions of collections
pub mod Rising
