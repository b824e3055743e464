mod Images
mod Names
