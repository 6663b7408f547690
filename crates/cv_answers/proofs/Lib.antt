mod AnswerData
mod Found
mod Ids
mod Lists
mod ReadBack
