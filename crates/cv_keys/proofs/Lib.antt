mod Elements
mod Tables
mod Headers
